-- The vertices of a graph cut into segments. A segment is a run of vertices of a thread in which each but the first has just one
-- parent, the one before, which has no other child.
use Rattle.std.specs.Prelude.{◌≡◌, ℕ, ◌+◌, ◌-◌, ◌<◌, ◌≤◌, List, [], length, get_or, take, map}
use Rattle.std.specs.List.{Contains, sum_by}
use Rattle.cost_graph.specs.Graph.{CostGraph, Edge, IsOwner, vertex_total, parents_at, children_at}
use Rattle.cost_graph.specs.View.{lists}
use Rattle.span_bound.specs.declared.segments.Segments.{Segments}

-- v follows the vertex before it in a segment
pub record Follows (g : CostGraph) (v : ℕ) : Type 0 where
  pub some : 0 < v
  pub edge : Edge g (v - 1) v
  pub parent : (p : ℕ) → Edge g p v → p ≡ v - 1
  pub child : (c : ℕ) → Edge g (v - 1) c → c ≡ v
  pub thread : ℕ
  pub owns : IsOwner g v thread
  pub owns_before : IsOwner g (v - 1) thread

-- v is one of the vertices of segment s
abbrev pub IsIn : List ℕ → List ℕ → ℕ → ℕ → Type 0
IsIn heads lens s v = (get_or heads s 0 ≤ v) × (v < get_or heads s 0 + get_or lens s 0)

-- each vertex stands in one segment, its slot, and those from which edges lead to a segment's first vertex stand in earlier ones
pub record AreSegmentsOf (g : CostGraph) (heads lens slots : List ℕ) : Type 0 where
  pub long : length lens ≡ length heads
  pub covers : length slots ≡ vertex_total g
  pub few : length heads ≤ vertex_total g
  pub total : sum_by (λ n. n) lens ≡ vertex_total g
  pub stands : (v : ℕ) → v < vertex_total g → (get_or slots v 0 < length heads) × IsIn heads lens (get_or slots v 0) v
  pub own : (s v : ℕ) → s < length heads → IsIn heads lens s v → (v < vertex_total g) × (get_or slots v 0 ≡ s)
  pub filled : (s : ℕ) → s < length heads → 0 < get_or lens s 0
  pub follows : (s v : ℕ) → s < length heads → IsIn heads lens s v → get_or heads s 0 < v → Follows g v
  pub earlier : (s p : ℕ) → s < length heads → Edge g p (get_or heads s 0) → get_or slots p 0 < s

-- the same for the first k vertices of an order
pub record AreSegmentsOfFirst (g : CostGraph) (order : List ℕ) (k : ℕ) (heads lens slots : List ℕ) : Type 0 where
  pub long : length lens ≡ length heads
  pub covers : length slots ≡ vertex_total g
  pub few : length heads ≤ k
  pub total : sum_by (λ n. n) lens ≡ k
  pub stands : (v : ℕ) → Contains (take k order) v → (get_or slots v 0 < length heads) × IsIn heads lens (get_or slots v 0) v
  pub own : (s v : ℕ) → s < length heads → IsIn heads lens s v → Contains (take k order) v × (get_or slots v 0 ≡ s)
  pub filled : (s : ℕ) → s < length heads → 0 < get_or lens s 0
  pub follows : (s v : ℕ) → s < length heads → IsIn heads lens s v → get_or heads s 0 < v → Follows g v
  pub earlier : (s p : ℕ) → s < length heads → Edge g p (get_or heads s 0) → Contains (take k order) p × (get_or slots p 0 < s)

-- the slots of vertices
abbrev pub images : List ℕ → List ℕ → List ℕ
images slots vertices = map (λ v. get_or slots v 0) vertices

-- what the words say of the segments, for each vertex
abbrev pub spread : List ℕ → List ℕ → List ℕ
spread slots words = map (λ s. get_or words s 0) slots

abbrev pub last_of : List ℕ → List ℕ → ℕ → ℕ
last_of heads lens s = get_or heads s 0 + get_or lens s 0 - 1

-- the segments, with those from which edges lead to the first vertex of each, and those to which edges lead from its last
pub record AreSegments (g : CostGraph) (c : Segments) : Type 0 where
  pub cut : AreSegmentsOf g c.heads.items c.lens.items c.slots.items
  pub parents_cover : length c.parents.items ≡ length c.heads.items
  pub children_cover : length c.children.items ≡ length c.heads.items
  pub parents : (s : ℕ) → s < length c.heads.items →
      get_or (lists c.parents.items) s [] ≡ images c.slots.items (parents_at g (get_or c.heads.items s 0))
  pub children : (s : ℕ) → s < length c.heads.items →
      get_or (lists c.children.items) s [] ≡ images c.slots.items (children_at g (last_of c.heads.items c.lens.items s))
