use Rattle.cost_graph.proofs.Above.{IsBeneath}
use Rattle.cost_graph.proofs.reachability.descendants.Given as goal

abbrev pub invariant-loop-vertex : goal.invariant-loop-vertex
invariant-loop-vertex l = IsBeneath l.graph l.order l.source l.marks.items l.vertex-index
