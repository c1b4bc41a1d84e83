-- Orders in which each vertex stands after its parents, and cycles.
use Rattle.std.specs.Prelude.{◌≡◌, ℕ, ◌<◌, ◌↔◌, List, ◌∷◌, length, take, get_or, nat_eq, Bool, true, false, ◌⊎◌}
use Rattle.std.specs.List.{Contains, IsDistinct}
use Rattle.cost_graph.specs.Walks.{Leads}
use Rattle.cost_graph.specs.Graph.{CostGraph, vertex_total, Edge, IsAncestor, IsAcyclic}

-- each vertex once, after its parents
pub record IsTopological (g : CostGraph) (order : List ℕ) : Type 0 where
  pub all : (v : ℕ) → (v < vertex_total g) ↔ Contains order v
  pub after : (i u : ℕ) → i < length order → Edge g u (get_or order i 0) → Contains (take i order) u
  pub once : IsDistinct nat_eq order

-- a walk of at least two numbers leads back
abbrev pub IsCyclic : (ℕ → ℕ → Type 0) → Type 0
IsCyclic E = (v : ℕ) × (w : ℕ) × (ws : List ℕ) × Leads E v (w ∷ ws) v

-- a cycle leads to v
abbrev pub IsBehindCycle : CostGraph → ℕ → Type 0
IsBehindCycle g v = (u : ℕ) × (w : ℕ) × (ws : List ℕ) × Leads (Edge g) u (w ∷ ws) u × IsAncestor g u v

-- each vertex to which no cycle leads, once, after its parents, and no other vertex
pub record IsBeforeCycles (g : CostGraph) (order : List ℕ) : Type 0 where
  pub all : (v : ℕ) → ((v < vertex_total g) × (IsBehindCycle g v → ⊥)) ↔ Contains order v
  pub after : (i u : ℕ) → i < length order → Edge g u (get_or order i 0) → Contains (take i order) u
  pub once : IsDistinct nat_eq order

-- the vertices with the property are marked, and no others
pub record AreMarked (g : CostGraph) (P : ℕ → Type 0) (marks : List Bool) : Type 0 where
  pub covers : length marks ≡ vertex_total g
  pub are : (v : ℕ) → v < vertex_total g → (get_or marks v false ≡ true) ↔ P v

-- all vertices in such an order, and there is no cycle; or fewer, and a cycle
abbrev pub IsSortedOrStuck : CostGraph → List ℕ → Type 0
IsSortedOrStuck g order = (IsTopological g order × IsAcyclic g × (length order ≡ vertex_total g)) ⊎ (IsCyclic (Edge g) × (length order < vertex_total g))
