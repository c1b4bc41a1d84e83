use Rattle.std.proofs.Common.{◌∙◌, subst, IfSome}
use Rattle.task_state.specs.Tasks.{read_task}
use Rattle.join_board.specs.Handles.{about, knows}
use Rattle.join_board.specs.Jobs.{the_job}
use Rattle.join_board.specs.Tasks.{CanRun}
use Rattle.steal_runtime.proofs.Seats.{same_trans}
use Rattle.steal_runtime.proofs.Tasks.{can_run_on}
use Rattle.steal_runtime.proofs.turn.turn.Goals as goal

pub loop-preserved : goal.loop-preserved
loop-preserved g c = let job = the_job (about c.args.board.now) in let first = knows c.args.seat.now in let v = knows c.loop.seat in let w = knows c.advance.new.seat in let x = knows c.wait_for.new.seat in let y = knows c.is_stopped.new.seat in
    let run = subst (λ o. IfSome o (λ t. CanRun job x (read_task t))) c.in-Some-3.is c.in_ok-fed.ensures.fed in (
      c.is_stopped.ensures.0,
      same_trans first x y (same_trans first w x (same_trans first v w c.loop.invariant.1 c.advance.ensures.seat.1) c.wait_for.ensures.seat.1) c.is_stopped.ensures.1,
      can_run_on job x y (read_task c.in-Some-3.fed) c.is_stopped.ensures.1 run,
      c.wait_for.ensures.lanes ∙ (c.advance.ensures.lanes ∙ c.loop.invariant.3),
    )
