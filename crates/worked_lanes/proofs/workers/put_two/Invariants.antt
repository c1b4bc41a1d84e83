use Rattle.std.proofs.Common.{◌≡◌}
use Rattle.core_steps.specs.Moves.{read_job as the_job}
use Rattle.task_state.specs.Tasks.{read_task}
use Rattle.priority_deques.specs.EndBooks.{steal_job}
use Rattle.priority_deques.specs.Tasks.{IsAtRest}
use Rattle.worked_lanes.proofs.workers.put_two.Given as goal

abbrev pub invariant-loop-n : goal.invariant-loop-n
invariant-loop-n l = (steal_job l.end ≡ l.job) × IsAtRest (the_job l.job) (read_task l.root)
