use Rattle.std.proofs.Common.{ℕ, ◌<◌}
use Rattle.cost_graph.specs.Inside.Shape.{IsFit}
use Rattle.cost_graph.proofs.shape.search.Given as goal

abbrev pub invariant-loop-vertex : goal.invariant-loop-vertex
invariant-loop-vertex l = (u : ℕ) → u < l.vertex → IsFit l.graph l.order.pairs l.thread u
