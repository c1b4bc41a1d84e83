use Rattle.priority_deques.proofs.Moves.{twins}
use Rattle.priority_deques.proofs.handles.OwnDeque.visitor.Goals as goal

pub another-pass-requires : goal.another-pass-requires
another-pass-requires c = twins _ _ _ c.args.self.now.named
