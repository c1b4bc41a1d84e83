use Rattle.std.proofs.Common.{◌≡◌, length, take}
use Rattle.std.specs.List.{sum_by}
use Rattle.cost_graph.specs.Graph.{children_at}
use Rattle.cost_graph.proofs.marks.count_children.Given as goal

abbrev pub invariant-loop-vertex : goal.invariant-loop-vertex
invariant-loop-vertex l = l.count ≡ sum_by (λ v. length (children_at l.graph v)) (take l.vertex-index l.vertices.items)
