use Rattle.std.proofs.Common.{rules, ◌∷◌, sym, ap, subst, Some, ◌∙◌}
use Rattle.atomic_table.specs.Table.{rest}
use Rattle.join_board.specs.Inside.Views.{gave_view}
use Rattle.join_board.specs.Inside.Plays.{Grew, content}
use Rattle.join_board.proofs.Steps.{gives_shard}
use Rattle.join_board.proofs.moves.give.Goals as goal

pub swap-requires : goal.swap-requires
swap-requires c = let now = c.exchange-none.ensures.3 in (
  search rules,
  search rules,
  gives_shard c.args.top.now.key _ _ c.args.shard _ c.args.value (search rules) (search rules)
      (ap (λ m. m.1) now ∙ ap (λ cs. (c.args.shard, Some c.args.value) ∷ rest cs) c.requires.holds.0) (ap (λ m. m.0.hand.hand) now ∙ c.requires.holds.1)
      (subst (λ v. Grew v c.args.shard c.args.value) (ap (λ m. m.0) (sym now)) c.requires.holds.2),
)

pub returns-clause-given : goal.returns-clause-given
returns-clause-given c = let now = c.exchange-none.ensures.3 in c.swap.ensures.2 ∙ ap (λ m. (gave_view m.0 (content m.1), rest m.1)) (now ∙ ap (λ cs. (c.args.seat.now.me.0, (c.args.shard, Some c.args.value) ∷ rest cs)) c.requires.holds.0)
