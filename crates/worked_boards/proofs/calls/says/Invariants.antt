use Rattle.core_steps.specs.Moves.{read_job}
use Rattle.worked_boards.specs.Inside.Seats.{Sits}
use Rattle.worked_boards.proofs.calls.says.Given as goal

abbrev pub invariant-loop : goal.invariant-loop
invariant-loop g l = Sits (read_job l.fn.job) l.fn.board l.seat
