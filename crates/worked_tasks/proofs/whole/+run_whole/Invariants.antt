use Rattle.core_steps.specs.Moves.{read_job as the_job}
use Rattle.task_state.specs.Tasks.{read_task}
use Rattle.worked_tasks.specs.Inside.Idle.{IsIdle}
use Rattle.worked_tasks.proofs.whole.+run_whole.Given as goal

abbrev pub decreases-run_whole : goal.decreases-run_whole
decreases-run_whole l = l.depth

abbrev pub invariant-loop : goal.invariant-loop
invariant-loop l = IsIdle (the_job l.job) (read_task l.task)
