use Rattle.cost_graph.specs.Inside.Marks.{unmarked}
use Rattle.cost_graph.proofs.Sorting.{IsSorting}
use Rattle.cost_graph.proofs.order.topological.Given as goal

abbrev pub invariant-places : goal.invariant-places
invariant-places l = IsSorting l.graph l.marks.items l.seen.items l.order.items l.place

abbrev pub decreases-places : goal.decreases-places
decreases-places l = unmarked l.marks.items
