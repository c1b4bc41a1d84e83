use Rattle.std.proofs.Common.{ap}
use Rattle.priority_deques.specs.declared.view.LaneView.{LaneView}
use Rattle.priority_deques.specs.Books.{book_of}
use Rattle.priority_deques.proofs.Moves.{takes}
use Rattle.priority_deques.proofs.deque.OwnDequeBagUnit.remove.Goals as goal

pub pop_as-requires-clause-fifo : goal.pop_as-requires-clause-fifo
pop_as-requires-clause-fifo c = λ _. takes _ _ 1 _ c.args.self.now.named

pub returns-in-Some : goal.returns-in-Some
returns-in-Some c = (ap (λ (w : LaneView). book_of c.args.self.now.job.value w c.args.self.now.misses c.args.self.now.refusals) c.in-Some.ensures.rule.0, (c.in-Some.ensures.rule.1 _ c.args.self.now.named).0)
