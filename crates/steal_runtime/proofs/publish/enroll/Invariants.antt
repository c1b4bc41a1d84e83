use Rattle.join_board.specs.Calls.{SameSeat}
use Rattle.join_board.specs.Handles.{knows}
use Rattle.steal_runtime.specs.Inside.Seats.{Sits}
use Rattle.steal_runtime.proofs.publish.enroll.Given as goal

abbrev pub invariant-loop : goal.invariant-loop
invariant-loop g l = Sits l.fn.board l.seat × SameSeat (knows l.fn.seat) (knows l.seat)
