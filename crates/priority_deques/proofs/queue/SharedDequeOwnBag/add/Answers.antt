use Rattle.std.specs.Prelude.{[], ◌∷◌}
use Rattle.priority_deques.proofs.Moves.{pushes}
use Rattle.priority_deques.proofs.queue.SharedDequeOwnBag.add.Goals as goal

pub push_as-requires-clause-rule : goal.push_as-requires-clause-rule
push_as-requires-clause-rule g c = λ n items views short k at. pushes _ _ (c.args.task ∷ []) _ c.args.self.now.named (c.requires, tt) items views k at
