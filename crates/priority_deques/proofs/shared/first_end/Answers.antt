use Rattle.priority_deques.specs.Handles.{shared_book}
use Rattle.priority_deques.proofs.shared.first_end.Goals as goal

pub invariant_of-result : goal.invariant_of-result
invariant_of-result c = record { end = (c.in_ok-lanes.ensures shared_book).1 }

pub returns : goal.returns
returns c = (c.in_ok-table.ensures, (c.in_ok-lanes.ensures shared_book).0)
