use Rattle.std.proofs.Common.{rules, ◌≡◌, ℕ, ◌+◌, ◌-◌, sym, ap, ◌∙◌, subst, arith}
use Rattle.join_board.specs.Logs.{Each}
use Rattle.join_board.specs.Views.{opened_view}
use Rattle.join_board.specs.Inside.Views.{left, right}
use Rattle.join_board.specs.Handles.{knows, IsSeatOf}
use Rattle.join_board.specs.declared.owned.BoardSeat.{BoardSeat}
use Rattle.join_board.proofs.Gather.{each_snoc}
use Rattle.join_board.proofs.owned.Board.new.Goals as goal

pub loop-i-preserved : goal.loop-i-preserved
loop-i-preserved c = let inv = c.loop-i.invariant in let key = c.in_ok-board.board.table.shared.key in let n : ℕ = c.args.seats + 1 - c.loop-i.i in let old = inv.1 in let mine = c.split-other.ensures.seat in let its = c.split-other.ensures.other in
    let less : n - 1 ≡ c.args.seats + 1 - (c.loop-i.i + 1) = omega arith in let push = c.push_reserved.ensures in (
      mine.0,
      mine.1 ∙ (ap left old ∙ ap (opened_view key) less),
      search rules,
      search rules,
      subst (Each (λ (s : BoardSeat). IsSeatOf c.in_ok-board.board s × (knows s ≡ opened_view key 1))) (sym push.items)
          (each_snoc (λ (s : BoardSeat). IsSeatOf c.in_ok-board.board s × (knows s ≡ opened_view key 1)) c.loop-i.all.items c.split-other.result inv.4 (its.0, its.1 ∙ ap right old)),
    )

pub returns-clause-seats : goal.returns-clause-seats
returns-clause-seats c = let inv = c.loop-i.invariant in let key = c.in_ok-board.board.table.shared.key in let old = inv.1 in let push = c.push_reserved-2.ensures in let end = c.loop-i-test.false in let few = c.loop-i.auto.i-end in let some_seat = c.requires.seats.0 in
    let one : c.args.seats + 1 - c.loop-i.i ≡ 1 = search rules in (
      search rules,
      subst (Each (λ (s : BoardSeat). IsSeatOf c.in_ok-board.board s × (knows s ≡ opened_view key 1))) (sym push.items)
          (each_snoc (λ (s : BoardSeat). IsSeatOf c.in_ok-board.board s × (knows s ≡ opened_view key 1)) c.loop-i.all.items c.loop-i.first inv.4 (inv.0, old ∙ ap (opened_view key) one)),
    )
