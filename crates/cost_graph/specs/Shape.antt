-- Whether a graph is well formed, or the first thread and vertex that show that it is not.
use Rattle.std.specs.Prelude.{ℕ, ◌<◌, List}
use Rattle.priority_order.specs.Order.{AtMost}
use Rattle.cost_graph.specs.Graph.{CostGraph, thread_total, thread_at, vertex_priority, first_vertex, last_vertex, IsAncestor, IsWellFormed, IsThreadWellFormed}
use Rattle.cost_graph.specs.declared.stop.Shape.{Shape}
use Rattle.cost_graph.specs.declared.stop.Shape.TheVariants.{Good, Bad}

-- u is an ancestor of the last vertex of thread t and not of its first, and the thread's priority is not at most u's
pub record IsUnfit (g : CostGraph) (pairs : List (ℕ × ℕ)) (t u : ℕ) : Type 0 where
  pub above : IsAncestor g u (last_vertex g t)
  pub apart : IsAncestor g u (first_vertex g t) → ⊥
  pub higher : AtMost pairs (thread_at g t).priority (vertex_priority g u) → ⊥

-- u is the first vertex that does
pub record IsFirstUnfit (g : CostGraph) (pairs : List (ℕ × ℕ)) (t u : ℕ) : Type 0 where
  pub is : IsUnfit g pairs t u
  pub first : (w : ℕ) → w < u → IsUnfit g pairs t w → ⊥

-- good exactly where the graph is well formed; else the first thread that is not, and the first vertex that shows it
abbrev pub IsShape : CostGraph → List (ℕ × ℕ) → Shape → Type 0
IsShape g pairs Good = IsWellFormed g pairs
IsShape g pairs (Bad t u) = (t < thread_total g) × IsFirstUnfit g pairs t u × ((s : ℕ) → s < t → IsThreadWellFormed g pairs s)
