use Rattle.std.proofs.Common.{rules, ◌≡◌, ◌≤◌, ◌^◌, false}
use Rattle.core_steps.specs.Moves.{read_job}
use Rattle.task_state.specs.Tasks.{has_ended, read_task}
use Rattle.join_board.specs.Handles.{knows}
use Rattle.join_board.proofs.Tasks.{idle_runs}
use Rattle.worked_boards.proofs.calls.run.Goals as goal

pub run-requires-clause-task : goal.run-requires-clause-task
run-requires-clause-task c = let t = read_task c.args.task.now in let live : has_ended t ≡ false = search rules in let room : t.local.steps ≤ 2 ^ 59 = search rules in idle_runs (read_job c.args.job.now) (knows c.args.seat.now) t c.requires.task live room
