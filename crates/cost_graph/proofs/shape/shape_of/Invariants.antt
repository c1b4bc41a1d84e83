use Rattle.std.proofs.Common.{ℕ, ◌<◌}
use Rattle.cost_graph.specs.Graph.{IsThreadWellFormed}
use Rattle.cost_graph.proofs.shape.shape_of.Given as goal

abbrev pub invariant-loop-thread : goal.invariant-loop-thread
invariant-loop-thread l = (s : ℕ) → s < l.thread → IsThreadWellFormed l.graph l.order.pairs s
