use Rattle.std.proofs.Common.{rules, ◌≡◌, ◌∷◌, sym, ap, subst, Some, None, ◌∙◌, refl}
use Rattle.std.specs.Option.{IsSome}
use Rattle.atomic_table.specs.Table.{rest}
use Rattle.join_board.specs.Inside.Views.{took_view, missed_view}
use Rattle.join_board.specs.Inside.Plays.{in_slot, Taken}
use Rattle.join_board.proofs.Steps.{takes_seated, first_slot}
use Rattle.join_board.proofs.moves.take.Goals as goal

pub swap-requires : goal.swap-requires
swap-requires c = (search rules, search rules, takes_seated c.args.top.now.key _ _ _ _ (search rules) (search rules) c.requires.rests.0 c.requires.rests.1 c.requires.rests.2)

pub exchange-requires : goal.exchange-requires
exchange-requires c = let h = (c.swap.ensures.2 c.args.shard refl).0 c.if-swap-eq0.true in let e = ap (λ m. m.1) h.1 in (search rules, (_, e ∙ ap (λ cs. (c.args.shard, Some h.0) ∷ rest cs) (sym e)))

pub unwrap-requires : goal.unwrap-requires
unwrap-requires c = let h = (c.swap.ensures.2 c.args.shard refl).0 c.if-swap-eq0.true in let e = ap (λ m. first_slot m.1) h.1 in let f = ap first_slot c.exchange.ensures.2 in subst IsSome (sym e ∙ f) (search rules)

pub returns-then-swap-eq0-clause-found : goal.returns-then-swap-eq0-clause-found
returns-then-swap-eq0-clause-found c = let h = (c.swap.ensures.2 c.args.shard refl).0 c.if-swap-eq0.true in let v = c.args.seat.now.me.0 in
    let e = ap (λ m. in_slot (first_slot m.1)) h.1 in let f = ap (λ cs. in_slot (first_slot cs)) c.exchange.ensures.2 in
    let same : h.0 ≡ c.unwrap.result = sym e ∙ (f ∙ ap in_slot c.unwrap.ensures) in
    (c.exchange.ensures.3 ∙ (ap (λ m. (m.0, (c.args.shard, None) ∷ rest m.1)) h.1 ∙ (λ i. (took_view v c.args.shard (same i), (c.args.shard, None) ∷ c.requires.rests.0 i))), subst (Taken v c.args.shard) same h.2)

pub returns-else-swap-eq0-clause-found : goal.returns-else-swap-eq0-clause-found
returns-else-swap-eq0-clause-found c = (c.swap.ensures.2 c.args.shard refl).1 c.if-swap-eq0.false ∙ ap (λ cs. (missed_view c.args.seat.now.me.0 c.args.shard, cs)) c.requires.rests.0
