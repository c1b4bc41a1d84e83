-- Finite graphs of threads: the vertices of the threads are numbered from 0, thread by thread.
use Rattle.std.specs.Prelude.{Bool, cond, nat_eq, nat_lt, ◌^◌, ◌≡◌, ℕ, ◌+◌, ◌-◌, ◌<◌, ◌≤◌, List, [], ◌∷◌, length, take, get_or, replicate}
use Rattle.std.specs.List.{sum_by, Contains, flat_map, AllByRecursion, list_any, filter, range_with_len}
use Rattle.std.specs.List.Sorted.{IsStrictlyIncreasing}
use Rattle.priml_syntax.specs.Paths.{Precedes}
use Rattle.priority_order.specs.Order.{AtMost, IsBelow}
use Rattle.cost_graph.specs.declared.graph.Thread.{Thread}
use Rattle.cost_graph.specs.Walks.{Reaches, ProperlyReaches, HasNoCycle}

-- the threads in order of paths, and for each vertex those with an edge to it, ascending
pub record CostGraph : Type 0 where
  pub threads : List Thread
  pub parents : List (List ℕ)

abbrev pub vertex_total : CostGraph → ℕ
vertex_total g = length g.parents

abbrev pub thread_total : CostGraph → ℕ
thread_total g = length g.threads

-- the most that threads times vertices may be where each thread looks at each vertex
abbrev pub most_looks : ℕ
most_looks = 134217728

abbrev pub parents_at : CostGraph → ℕ → List ℕ
parents_at g v = get_or g.parents v []

-- from u to v
abbrev pub Edge : CostGraph → ℕ → ℕ → Type 0
Edge g u v = Contains (parents_at g v) u

abbrev pub is_edge : CostGraph → ℕ → ℕ → Bool
is_edge g u v = list_any (nat_eq u) (parents_at g v)

-- the vertices to which u has an edge, ascending
abbrev pub children_at : CostGraph → ℕ → List ℕ
children_at g u = filter (is_edge g u) (range_with_len 0 (vertex_total g))

abbrev pub no_thread : Thread
no_thread = record { path = []; priority = 0; vertices = 0 }

abbrev pub thread_at : CostGraph → ℕ → Thread
thread_at g t = get_or g.threads t no_thread

-- the vertices of the threads before t come first
abbrev pub first_vertex : CostGraph → ℕ → ℕ
first_vertex g t = sum_by (λ (x : Thread). x.vertices) (take t g.threads)

abbrev pub last_vertex : CostGraph → ℕ → ℕ
last_vertex g t = first_vertex g t + (thread_at g t).vertices - 1

-- v is one of the vertices of thread t
pub record IsOwner (g : CostGraph) (v t : ℕ) : Type 0 where
  pub within : t < thread_total g
  pub low : first_vertex g t ≤ v
  pub high : v < first_vertex g t + (thread_at g t).vertices

-- v is the vertex with this number of the thread with this path
pub record IsVertexAt (g : CostGraph) (path : List ℕ) (number v : ℕ) : Type 0 where
  pub thread : ℕ
  pub within : thread < thread_total g
  pub path_is : (thread_at g thread).path ≡ path
  pub below : number < (thread_at g thread).vertices
  pub is : v ≡ first_vertex g thread + number

-- a vertex by name: the path of its thread, and its number there
pub record Vertex : Type 0 where
  pub path : List ℕ
  pub number : ℕ

-- the name of the vertex that has this number among the vertices of all these threads
abbrev pub name_in : List Thread → ℕ → Vertex
name_in [] v = record { path = []; number = v }
name_in (t ∷ ts) v = cond (nat_lt v t.vertices) (record { path = t.path; number = v }) (name_in ts (v - t.vertices))

abbrev pub name_of : CostGraph → ℕ → Vertex
name_of g v = name_in g.threads v

-- each vertex has its thread's priority
abbrev pub vertex_priority : CostGraph → ℕ → ℕ
vertex_priority g v = get_or (flat_map (λ (x : Thread). replicate x.vertices x.priority) g.threads) v 0

abbrev pub IsAncestor : CostGraph → ℕ → ℕ → Type 0
IsAncestor g = Reaches (Edge g)

abbrev pub IsProperAncestor : CostGraph → ℕ → ℕ → Type 0
IsProperAncestor g = ProperlyReaches (Edge g)

abbrev pub IsAcyclic : CostGraph → Type 0
IsAcyclic g = HasNoCycle (Edge g)

-- the priority of thread t is at most that of each vertex that its last vertex waits for, and its first does not
abbrev pub IsThreadWellFormed : CostGraph → List (ℕ × ℕ) → ℕ → Type 0
IsThreadWellFormed g pairs t =
    (u : ℕ) → IsAncestor g u (last_vertex g t) → (IsAncestor g u (first_vertex g t) → ⊥) → AtMost pairs (thread_at g t).priority (vertex_priority g u)

abbrev pub IsWellFormed : CostGraph → List (ℕ × ℕ) → Type 0
IsWellFormed g pairs = (t : ℕ) → t < thread_total g → IsThreadWellFormed g pairs t

-- vertex v has a priority strictly below that of vertex u
abbrev pub IsVertexBelow : CostGraph → List (ℕ × ℕ) → ℕ → ℕ → Type 0
IsVertexBelow g pairs v u = IsBelow pairs (vertex_priority g v) (vertex_priority g u)

-- in the order of paths, no path twice
abbrev pub AreInOrder : List Thread → Type 0
AreInOrder [] = Unit {0}
AreInOrder (t ∷ ts) = AllByRecursion (λ (x : Thread). Precedes t.path x.path) ts × AreInOrder ts

-- what each graph keeps to
pub record IsGraph (g : CostGraph) : Type 0 where
  pub covers : sum_by (λ (x : Thread). x.vertices) g.threads ≡ vertex_total g
  pub small : vertex_total g < 2 ^ 32
  pub filled : (t : ℕ) → t < thread_total g → 0 < (thread_at g t).vertices
  pub in_order : AreInOrder g.threads
  pub ends : (u v : ℕ) → Edge g u v → u < vertex_total g
  pub rising : (v : ℕ) → IsStrictlyIncreasing (parents_at g v)
  -- each vertex of a thread has an edge to its next
  pub goes_on : (t k : ℕ) → t < thread_total g → k + 1 < (thread_at g t).vertices → Edge g (first_vertex g t + k) (first_vertex g t + k + 1)
