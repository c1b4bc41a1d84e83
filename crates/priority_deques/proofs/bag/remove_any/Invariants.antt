use Rattle.std.proofs.Common.{map}
use Rattle.priority_deques.specs.Books.{Missed}
use Rattle.priority_deques.proofs.Changes.{FrontChanged}
use Rattle.priority_deques.proofs.bag.remove_any.Given as goal

abbrev pub invariant-loop-i : goal.invariant-loop-i
invariant-loop-i g l = FrontChanged Missed l.i (map g.B.Bag.book l.initial.bags.items) (map g.B.Bag.book l.bags.items)
