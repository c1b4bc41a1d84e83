use Rattle.std.proofs.Common.{vec_len}
use Rattle.std.specs.List.{All}
use Rattle.core_steps.specs.Moves.{read_job}
use Rattle.join_board.specs.declared.owned.BoardSeat.{BoardSeat}
use Rattle.worked_boards.specs.Inside.Seats.{Sits}
use Rattle.worked_boards.proofs.looks.deal.Given as goal

abbrev pub invariant-loop-seat : goal.invariant-loop-seat
invariant-loop-seat l = All (λ (s : BoardSeat). Sits (read_job l.fn._job) l.fn._board s) l.seats.items × All (λ p. Sits (read_job l.fn._job) l.fn._board p.seat) l.parts.items

abbrev pub decreases-loop-seat : goal.decreases-loop-seat
decreases-loop-seat l = vec_len l.seats
