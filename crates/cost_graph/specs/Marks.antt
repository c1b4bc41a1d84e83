-- What is ready; marks on the vertices that have run, and what a step frees.
use Rattle.std.specs.Prelude.{◌≡◌, ℕ, ◌<◌, ◌≤◌, ◌↔◌, List, length, get_or, Bool, false, true}
use Rattle.std.specs.List.{Contains}
use Rattle.cost_graph.specs.Graph.{CostGraph, Edge, vertex_total, parents_at}

-- v has not run, and each vertex with an edge to it has
pub record IsReady (g : CostGraph) (done : List ℕ) (v : ℕ) : Type 0 where
  pub vertex : v < vertex_total g
  pub waits : Contains done v → ⊥
  pub parents : (u : ℕ) → Edge g u v → Contains done u

-- v is ready after these have run, and was not before
abbrev pub BecomesReady : CostGraph → List ℕ → List ℕ → ℕ → Type 0
BecomesReady g before after v = IsReady g after v × (IsReady g before v → ⊥)

abbrev pub is_marked : List Bool → ℕ → Bool
is_marked marks v = get_or marks v false

-- of the parents of each vertex the first ones, as many as `seen` says, are marked
pub record IsSeen (g : CostGraph) (marks : List Bool) (seen : List ℕ) : Type 0 where
  pub marks_fit : length marks ≡ vertex_total g
  pub seen_fit : length seen ≡ vertex_total g
  pub within : (v : ℕ) → v < vertex_total g → get_or seen v 0 ≤ length (parents_at g v)
  pub marked : (v k : ℕ) → v < vertex_total g → k < get_or seen v 0 → is_marked marks (get_or (parents_at g v) k 0) ≡ true

-- the marked vertices are these, and each stands with its parents
pub record IsDone (g : CostGraph) (marks : List Bool) (done : List ℕ) : Type 0 where
  pub size : length marks ≡ vertex_total g
  pub agree : (v : ℕ) → (is_marked marks v ≡ true) ↔ Contains done v
  pub closed : (u v : ℕ) → Edge g u v → Contains done v → Contains done u
