use Rattle.std.proofs.Common.{ℕ, ◌<◌, get_or, Some}
use Rattle.cost_graph.specs.Graph.{vertex_priority}
use Rattle.prompt_checker.specs.Inside.Watch.{IsHeld}
use Rattle.prompt_checker.proofs.ready.overtaken.Given as goal

abbrev pub invariant-loop-vertex : goal.invariant-loop-vertex
invariant-loop-vertex l = (k : ℕ) → k < l.vertex-index → (u : ℕ) → IsHeld l.order.pairs l.ready.items (Some (vertex_priority l.graph (get_or l.line.items k 0))) u → ⊥
