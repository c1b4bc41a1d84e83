-- What the building of a graph of records knows on its way.
use Rattle.std.specs.Prelude.{◌≡◌, ◌⊎◌, ℕ, ◌+◌, ◌<◌, ◌≤◌, List, [], ◌∷◌, Some, slice_get, get_or, take, map, length}
use Rattle.std.specs.List.{Contains}
use Rattle.std.specs.List.Sorted.{IsStrictlyIncreasing}
use Rattle.priml_syntax.specs.declared.event.Event.{Event}
use Rattle.priml_syntax.specs.declared.event.Event.TheVariants.{Spawn}
use Rattle.priml_syntax.specs.declared.record.Record.{Record}
use Rattle.priml_syntax.specs.Events.{spawns}
use Rattle.priml_syntax.specs.Read.{read_record}
use Rattle.priml_syntax.specs.Records.{InPathOrder}
use Rattle.cost_graph.specs.declared.records.Tables.{Tables}
use Rattle.cost_graph.specs.Graph.{Vertex, name_in}
use Rattle.cost_graph.specs.View.{lists}
use Rattle.cost_graph.specs.Records.{Part, parts_in, part_at, event_total, thread_of, AreFinished, IsEdge}

abbrev pub no_part : Part
no_part = record { path = []; prio = 0; events = [] }

abbrev pub part_nth : List Part → ℕ → Part
part_nth xs t = get_or xs t no_part

-- the number of the first vertex of thread t
abbrev pub first_in : List Part → ℕ → ℕ
first_in xs t = event_total (take t xs)

-- the vertex n of thread t
abbrev pub vertex_at : List Part → ℕ → ℕ → Vertex
vertex_at xs t n = record { path = (part_nth xs t).path; number = n }

-- the vertex has the number a among all
pub record IsNumber (xs : List Part) (u : Vertex) (a : ℕ) : Type 0 where
  pub thread : ℕ
  pub within : thread < length xs
  pub path_is : (part_nth xs thread).path ≡ u.path
  pub below : u.number < length (part_nth xs thread).events
  pub is : a ≡ first_in xs thread + u.number

-- the numbers of the vertices with an edge to v
pub record AreParents (xs : List Part) (v : Vertex) (numbers : List ℕ) : Type 0 where
  pub rising : IsStrictlyIncreasing numbers
  pub has : (u : Vertex) (a : ℕ) → IsNumber xs u a → IsEdge xs u v → Contains numbers a
  pub only : (a : ℕ) → Contains numbers a → (u : Vertex) × IsNumber xs u a × IsEdge xs u v

-- the lists are those of the first vertices
abbrev pub AreRight : List Part → List (List ℕ) → Type 0
AreRight xs parents = (v : ℕ) → v < length parents → AreParents xs (name_in (map thread_of xs) v) (get_or parents v [])

-- event n is the k-th Spawn, from 0
pub record IsSpawnPlace (es : List Event) (k n : ℕ) : Type 0 where
  pub event : slice_get es n ≡ Some Spawn
  pub before : spawns (take n es) ≡ k

pub record AreSpawnPlaces (es : List Event) (places : List ℕ) : Type 0 where
  pub long : length places ≡ spawns es
  pub are : (k : ℕ) → k < length places → IsSpawnPlace es k (get_or places k 0)

-- for each thread the places of its Spawns
pub record AreSpawnLists (xs : List Part) (places : List (List ℕ)) : Type 0 where
  pub covers : length places ≡ length xs
  pub are : (t : ℕ) → t < length xs → AreSpawnPlaces (part_nth xs t).events (get_or places t [])

-- for each thread the number of its first vertex
pub record AreFirstsOf (xs : List Part) (firsts : List ℕ) : Type 0 where
  pub covers : length firsts ≡ length xs
  pub are : (t : ℕ) → t < length xs → get_or firsts t 0 ≡ first_in xs t

-- the tables are those of these records, which are finished
pub record AreKnown (rs : List Record) (known : Tables) : Type 0 where
  pub in_order : InPathOrder (map read_record rs)
  pub finished : AreFinished (parts_in rs)
  pub firsts : AreFirstsOf (parts_in rs) known.firsts.items
  pub spawns : AreSpawnLists (parts_in rs) (lists known.spawns.items)

-- vertex n of a thread with this path is its k-th Spawn
pub record IsKthSpawn (xs : List Part) (path : List ℕ) (k n : ℕ) : Type 0 where
  pub part : Part
  pub is : part_at xs path ≡ Some part
  pub place : IsSpawnPlace part.events k n

-- some thread with this path has a k-th Spawn
pub record HasSpawn (xs : List Part) (path : List ℕ) (k : ℕ) : Type 0 where
  pub part : Part
  pub is : part_at xs path ≡ Some part
  pub some : k < spawns part.events

-- the two numbers, the lesser first
abbrev pub ArePair : ℕ → ℕ → List ℕ → Type 0
ArePair a b numbers = ((a < b) × (numbers ≡ a ∷ b ∷ [])) ⊎ ((b ≤ a) × (numbers ≡ b ∷ a ∷ []))
