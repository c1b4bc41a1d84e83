use Rattle.cost_graph.proofs.Above.{IsAbove}
use Rattle.cost_graph.proofs.reachability.ancestors.Given as goal

abbrev pub invariant-places : goal.invariant-places
invariant-places l = IsAbove l.graph l.order l.target l.marks.items l.place

abbrev pub decreases-places : goal.decreases-places
decreases-places l = l.place
