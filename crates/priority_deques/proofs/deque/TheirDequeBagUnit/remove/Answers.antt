use Rattle.std.proofs.Common.{ap}
use Rattle.priority_deques.specs.declared.view.LaneView.{LaneView}
use Rattle.priority_deques.specs.Books.{book_of}
use Rattle.priority_deques.proofs.Moves.{takes}
use Rattle.priority_deques.proofs.deque.TheirDequeBagUnit.remove.Goals as goal

pub steal_as-requires-clause-takes : goal.steal_as-requires-clause-takes
steal_as-requires-clause-takes c = takes _ _ 1 _ c.args.self.now.named

pub returns-in-Success : goal.returns-in-Success
returns-in-Success c = (ap (λ (w : LaneView). book_of c.args.self.now.job.value w c.args.self.now.misses 0) c.in-Success.ensures.rule.0, (c.in-Success.ensures.rule.1 _ c.args.self.now.named).0)
