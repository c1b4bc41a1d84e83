use Rattle.std.proofs.Common.{◌≡◌, length, ◌==◌}
use Rattle.std.specs.List.{filter, range_with_len}
use Rattle.cost_graph.specs.Graph.{parents_at}
use Rattle.cost_graph.proofs.marks.sources.Given as goal

abbrev pub invariant-loop-vertex : goal.invariant-loop-vertex
invariant-loop-vertex l = l.found.items ≡ filter (λ v. length (parents_at l.graph v) == 0) (range_with_len 0 l.vertex)
