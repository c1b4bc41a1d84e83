use Rattle.priority_deques.proofs.Moves.{begins}
use Rattle.priority_deques.proofs.deque.OwnDequeOpens.open.Goals as goal

pub fifo_as-requires : goal.fifo_as-requires
fifo_as-requires c = begins
