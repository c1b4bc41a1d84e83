use Rattle.priority_deques.proofs.Moves.{pushes}
use Rattle.priority_deques.proofs.deque.OwnDequeOwnBagUnit.add.Goals as goal

pub push_as-requires-clause-pushes : goal.push_as-requires-clause-pushes
push_as-requires-clause-pushes c = pushes _ _ _ _ c.args.self.now.named (c.requires, tt)
