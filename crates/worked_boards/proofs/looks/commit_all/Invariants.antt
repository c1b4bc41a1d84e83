use Rattle.core_steps.specs.Moves.{read_job}
use Rattle.worked_boards.specs.Inside.Seats.{Sits}
use Rattle.worked_boards.proofs.looks.commit_all.Given as goal

abbrev pub invariant-loop-row : goal.invariant-loop-row
invariant-loop-row g l = Sits (read_job l.fn.job) l.fn.board l.seat
