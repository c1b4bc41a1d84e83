use Rattle.std.specs.List.{AllZip}
use Rattle.priority_deques.specs.Books.{Missed}
use Rattle.priority_deques.specs.Parts.{end_books}
use Rattle.priority_deques.proofs.Changes.{FrontChanged}
use Rattle.priority_deques.proofs.walk.take_from.Given as goal

abbrev pub invariant-loop-lane : goal.invariant-loop-lane
invariant-loop-lane g l = FrontChanged (AllZip Missed) l.lane (end_books g.O.Bag.book g.B.Bag.book l.initial.lanes.items) (end_books g.O.Bag.book g.B.Bag.book l.lanes.items)
