use Rattle.steal_runtime.proofs.Ends.{opened_seats}
use Rattle.steal_runtime.proofs.run.run_over.Goals as goal

pub deal-requires-clause-seats : goal.deal-requires-clause-seats
deal-requires-clause-seats g c = opened_seats c.in_ok-board.board c.in_ok-board.seats.items c.in_ok-board.ensures.seats.1
