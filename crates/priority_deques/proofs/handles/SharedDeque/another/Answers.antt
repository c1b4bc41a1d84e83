use Rattle.priority_deques.proofs.Moves.{twins}
use Rattle.priority_deques.proofs.handles.SharedDeque.another.Goals as goal

pub another-pass-requires-clause-rule : goal.another-pass-requires-clause-rule
another-pass-requires-clause-rule c = twins _ _ _ c.args.self.now.named
