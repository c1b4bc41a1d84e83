use Rattle.priority_deques.proofs.Moves.{begins}
use Rattle.priority_deques.proofs.queue.SharedDequeOpens.open.Goals as goal

pub with_rule-requires : goal.with_rule-requires
with_rule-requires c = begins
