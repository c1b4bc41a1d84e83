use Rattle.std.proofs.Common.{rules, ◌≡◌, ◌<◌, ◌⊎◌, inl, inr, sym, subst, ◌∙◌, true, Some}
use Rattle.std.specs.List.{All}
use Rattle.std.proofs.lemmas.List.Elements.{All-pop, All-push}
use Rattle.join_board.specs.Handles.{knows}
use Rattle.steal_runtime.specs.Inside.Seats.{Leaves, Sits, SomeOver}
use Rattle.steal_runtime.proofs.Ends.{some_over}
use Rattle.steal_runtime.proofs.run.gather.Goals as goal
use Rattle.steal_runtime.proofs.run.gather.Goals.{then-over, else-over}

pub loop-left-preserved : goal.loop-left-preserved
loop-left-preserved c = let b = c.args._board.now in let ss = c.loop-left.seats.items in let seat = c.in-Some.left.seat in
    let split = All-pop (Leaves b) c.loop-left.all.items c.pop.new.self.items (Some c.in-Some.left) c.in-Some.ensures.items c.loop-left.invariant.3 in let leaves : Leaves b c.in-Some.left = split.1 in
    let is = c.in_ok-push.ensures.items in
    let found : c.if-over.over ≡ true → SomeOver ss ⊎ (0 < (knows seat).live.over) = elim c.if-over.branch [ then-over w ↦ λ e. inl (c.loop-left.invariant.2 w.if-over.true) | else-over w ↦ λ e. inr (leaves.1 (sym w.over-is ∙ e)) ] in (
      search rules,
      subst (All (Sits b)) (sym is) (All-push (Sits b) ss seat c.loop-left.invariant.1 leaves.0),
      (λ e. subst SomeOver (sym is) (some_over ss seat (found e))),
      split.0,
    )
