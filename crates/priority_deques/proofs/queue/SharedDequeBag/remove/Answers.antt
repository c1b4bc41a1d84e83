use Rattle.std.proofs.Common.{ap}
use Rattle.priority_deques.specs.declared.view.LaneView.{LaneView}
use Rattle.priority_deques.specs.Books.{book_of}
use Rattle.priority_deques.proofs.Moves.{pops}
use Rattle.priority_deques.proofs.queue.SharedDequeBag.remove.Goals as goal

pub pop_as-requires-clause-rule : goal.pop_as-requires-clause-rule
pop_as-requires-clause-rule g c = (pops _ _ _ c.args.self.now.named, λ items views k at. tt)

pub returns-in-Some : goal.returns-in-Some
returns-in-Some g c = (ap (λ (w : LaneView). book_of c.args.self.now.job.value w c.args.self.now.misses c.args.self.now.refusals) c.in-Some.ensures.rule.0.0, (c.in-Some.ensures.rule.0.1 _ c.args.self.now.named).0)
