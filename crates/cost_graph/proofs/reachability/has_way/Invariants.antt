use Rattle.std.proofs.Common.{take}
use Rattle.cost_graph.specs.Inside.Order.{HasWay}
use Rattle.cost_graph.proofs.reachability.has_way.Given as goal

abbrev pub invariant-loop-vertex : goal.invariant-loop-vertex
invariant-loop-vertex l = HasWay l.marks.items (take l.vertex-index l.vertices) l.target → ⊥
