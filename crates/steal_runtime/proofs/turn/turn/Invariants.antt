use Rattle.std.proofs.Common.{◌≡◌}
use Rattle.task_state.specs.Tasks.{read_task}
use Rattle.join_board.specs.Calls.{SameSeat}
use Rattle.join_board.specs.Handles.{about, knows}
use Rattle.join_board.specs.Jobs.{the_job}
use Rattle.steal_runtime.specs.Inside.Seats.{Sits}
use Rattle.join_board.specs.Tasks.{CanRun}
use Rattle.steal_runtime.proofs.turn.turn.Given as goal

abbrev pub invariant-loop : goal.invariant-loop
invariant-loop g l = Sits l.fn.board l.seat × SameSeat (knows l.fn.seat) (knows l.seat) × CanRun (the_job (about l.fn.board)) (knows l.seat) (read_task l.task) × (g.L.Lanes.job l.end ≡ g.L.Lanes.job l.fn.end)
