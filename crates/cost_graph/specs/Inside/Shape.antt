-- A vertex that does not make a thread badly formed.
use Rattle.std.specs.Prelude.{ℕ, List}
use Rattle.priority_order.specs.Order.{AtMost}
use Rattle.cost_graph.specs.Graph.{CostGraph, thread_at, vertex_priority, first_vertex, last_vertex, IsAncestor}

-- u does not show that thread t is not well formed
abbrev pub IsFit : CostGraph → List (ℕ × ℕ) → ℕ → ℕ → Type 0
IsFit g pairs t u = IsAncestor g u (last_vertex g t) → (IsAncestor g u (first_vertex g t) → ⊥) → AtMost pairs (thread_at g t).priority (vertex_priority g u)
