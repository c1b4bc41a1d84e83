-- The cost graph of threads with their events: a vertex is a thread's path and a number, and the edges are of three kinds.
use Rattle.std.specs.Prelude.{◌≡◌, ◌≢◌, ◌⊎◌, ◌↔◌, ◌^◌, ℕ, ◌+◌, ◌-◌, ◌<◌, List, [], ◌∷◌, Option, Some, None, if◌then◌else◌, slice_get, take, map, length}
use Rattle.std.specs.List.{sum_by, Contains}
use Rattle.priml_syntax.specs.declared.event.Event.{Event}
use Rattle.priml_syntax.specs.declared.event.Event.TheVariants.{Start, Spawn, Join, End}
use Rattle.priml_syntax.specs.Paths.{same_path, child_path}
use Rattle.priml_syntax.specs.Events.{spawns}
use Rattle.priml_syntax.specs.Values.{Entry}
use Rattle.priml_syntax.specs.Read.{read_record}
use Rattle.priml_syntax.specs.declared.record.Record.{Record}
use Rattle.priority_order.specs.Order.{AtMost}
use Rattle.cost_graph.specs.Walks.{Reaches, HasNoCycle}
use Rattle.cost_graph.specs.declared.graph.Thread.{Thread}
use Rattle.cost_graph.specs.Graph.{Vertex, CostGraph, IsGraph, Edge, vertex_total, name_of}

-- a thread with its events so far
pub record Part : Type 0 where
  pub path : List ℕ
  pub prio : ℕ
  pub events : List Event

abbrev pub part_of : Entry → Part
part_of r = record { path = r.path; prio = r.prio; events = r.events }

abbrev pub parts_of : List Entry → List Part
parts_of = map part_of

-- the threads of declared records
abbrev pub parts_in : List Record → List Part
parts_in rs = parts_of (map read_record rs)

-- the thread of a path
abbrev pub part_at : List Part → List ℕ → Option Part
part_at [] p = None
part_at (x ∷ xs) p = if same_path x.path p then Some x else part_at xs p

abbrev pub IsVertex : List Part → Vertex → Type 0
IsVertex xs v = (x : Part) × (part_at xs v.path ≡ Some x) × (v.number < length x.events)

-- from each vertex of a thread to its next
abbrev pub Continues : List Part → Vertex → Vertex → Type 0
Continues xs u v = IsVertex xs v × (u.path ≡ v.path) × (v.number ≡ u.number + 1)

-- from a Spawn to vertex 0 of the child, where the child has begun
abbrev pub Spawns : List Part → Vertex → Vertex → Type 0
Spawns xs u v =
    (x : Part) × (part_at xs u.path ≡ Some x) × (slice_get x.events u.number ≡ Some Spawn) × IsVertex xs v
    × (v.path ≡ child_path u.path (spawns (take u.number x.events))) × (v.number ≡ 0)

-- the last vertex of the thread y
abbrev pub IsLastOf : Part → Vertex → Type 0
IsLastOf y u = length y.events ≡ u.number + 1

-- from a thread's last vertex to each Join of it
abbrev pub Joins : List Part → Vertex → Vertex → Type 0
Joins xs u v =
    (x : Part) × (y : Part) × (part_at xs v.path ≡ Some x) × (slice_get x.events v.number ≡ Some (Join u.path)) × (part_at xs u.path ≡ Some y) × IsLastOf y u

abbrev pub IsEdge : List Part → Vertex → Vertex → Type 0
IsEdge xs u v = Continues xs u v ⊎ Spawns xs u v ⊎ Joins xs u v

abbrev pub IsAcyclicGraph : List Part → Type 0
IsAcyclicGraph xs = HasNoCycle (IsEdge xs)

abbrev pub start_of : Part → Vertex
start_of x = record { path = x.path; number = 0 }

abbrev pub end_of : Part → Vertex
end_of x = record { path = x.path; number = length x.events - 1 }

-- each vertex that a thread's last one waits for, and its first one does not, has a priority that the thread's is at most
abbrev pub IsWellFormedGraph : List (ℕ × ℕ) → List Part → Type 0
IsWellFormedGraph pairs xs =
    (x y : Part) (u : Vertex) → part_at xs x.path ≡ Some x → part_at xs u.path ≡ Some y → Reaches (IsEdge xs) u (end_of x) →
    (Reaches (IsEdge xs) u (start_of x) → ⊥) → AtMost pairs x.prio y.prio

-- the number of all their events
abbrev pub event_total : List Part → ℕ
event_total = sum_by (λ (x : Part). length x.events)

-- some thread has the path
abbrev pub IsThere : List Part → List ℕ → Type 0
IsThere xs p = (x : Part) × (part_at xs p ≡ Some x)

-- some thread made the one of the path in one of its Spawns
abbrev pub IsSpawned : List Part → List ℕ → Type 0
IsSpawned xs p = (y : Part) × (k : ℕ) × Contains xs y × (p ≡ child_path y.path k) × (k < spawns y.events)

-- the roots, which are the threads whose path has one part, are 0 to count - 1
abbrev pub HasRoots : List Part → ℕ → Type 0
HasRoots xs count = (k : ℕ) → IsThere xs (k ∷ []) ↔ (k < count)

-- the threads of a job that has finished, each with all its events
pub record AreFinished (xs : List Part) : Type 0 where
  -- there is a root at least, and each other thread is spawned
  pub roots : (count : ℕ) × (0 < count) × HasRoots xs count
  pub spawned : (x : Part) → Contains xs x → length x.path ≢ 1 → IsSpawned xs x.path
  pub children : (x : Part) (k : ℕ) → Contains xs x → k < spawns x.events → IsThere xs (child_path x.path k)
  pub joined : (x : Part) (n : ℕ) (p : List ℕ) → Contains xs x → slice_get x.events n ≡ Some (Join p) → IsThere xs p
  -- Start is just the first event, and End just the last
  pub starts : (x : Part) (n : ℕ) → Contains xs x → (slice_get x.events n ≡ Some Start) ↔ (n ≡ 0)
  pub ends : (x : Part) (n : ℕ) → Contains xs x → (slice_get x.events n ≡ Some End) ↔ (n + 1 ≡ length x.events)
  pub few : event_total xs < 2 ^ 32

-- a thread of a graph, with a vertex for each event
abbrev pub thread_of : Part → Thread
thread_of x = record { path = x.path; priority = x.prio; vertices = length x.events }

-- the graph has these threads, in this order, and its edges are theirs
pub record IsGraphOf (xs : List Part) (g : CostGraph) : Type 0 where
  pub threads : g.threads ≡ map thread_of xs
  pub edges : (u v : ℕ) → u < vertex_total g → v < vertex_total g → Edge g u v ↔ IsEdge xs (name_of g u) (name_of g v)
  pub kept : IsGraph g
