use Rattle.priority_deques.specs.Handles.{their_book}
use Rattle.priority_deques.proofs.steal.lone_end.Goals as goal

pub invariant_of-result : goal.invariant_of-result
invariant_of-result c = record { end = (c.in_ok-lanes.ensures their_book).1 }

pub returns : goal.returns
returns c = (c.in_ok-table.ensures, (c.in_ok-lanes.ensures their_book).0)
