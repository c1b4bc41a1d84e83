use Rattle.std.proofs.Common.{ap, ◌∙◌, arith, cond, []}
use Rattle.join_board.specs.declared.view.View.{View}
use Rattle.join_board.specs.Inside.Views.{gave_view, ahead_view, behind_view}
use Rattle.join_board.proofs.Steps.{grown_sums}
use Rattle.join_board.proofs.Calls.{settled}
use Rattle.join_board.proofs.commit.settle.Goals as goal

pub sub_live-requires-clause-behind : goal.sub_live-requires-clause-behind
sub_live-requires-clause-behind c = let v = c.args.seat.now.me.0 in let n = cond c.args.spawn 1 0 in let g = c.requires.grew in let sums = grown_sums (ahead_view v n) c.args.shard c.args.value g.0 in let f = sums.2 in let h = c.requires.holds.3 in let z = g.2 in
    ap (λ m. m.0.live.behind) c.give.ensures.given ∙ (ap (λ m. (gave_view m.0 c.args.value).live.behind) c.add_live.ensures.added ∙ omega (arith, f, h, z))

pub returns-clause-settled : goal.returns-clause-settled
returns-clause-settled c = let v = c.args.seat.now.me.0 in let n = cond c.args.spawn 1 0 in let g = c.requires.grew in let sums = grown_sums (ahead_view v n) c.args.shard c.args.value g.0 in let f = sums.1 in let z = g.1 in
    c.sub_live.ensures.subtracted ∙ (ap (λ m. (behind_view m.0 0, m.1)) c.give.ensures.given ∙ (ap (λ m. (behind_view (gave_view m.0 c.args.value) 0, [])) c.add_live.ensures.added
    ∙ ap (λ (u : View). (u, [])) (settled v n c.args.value (omega (arith, f, z)))))
