-- What a graph's fields stand for.
use Rattle.std.specs.Prelude.{ℕ, ◌<◌, List, [], map, length, get_or, ◌≡◌}
use Rattle.std.specs.declared.vec.Vec.{Vec}
use Rattle.std.specs.declared.alloc.Global.{Global}
use Rattle.smallvec.specs.SmallVec.{SmallVec}
use Rattle.cost_graph.specs.declared.graph.Thread.{Thread}
use Rattle.cost_graph.specs.Graph.{CostGraph, IsGraph, IsOwner, vertex_total, thread_total, first_vertex, children_at}
use Rattle.cost_graph.specs.declared.graph.Graph.TheInside.{Inside}

-- a list of vectors as a list of lists
abbrev pub lists : List (Vec ℕ Global) → List (List ℕ)
lists = map (λ (l : Vec ℕ Global). l.items)

-- the same of vectors that keep a few numbers in themselves
abbrev pub short_lists : List (SmallVec ℕ) → List (List ℕ)
short_lists = map (λ (l : SmallVec ℕ). l.items)

abbrev pub graph_of : List Thread → List (Vec ℕ Global) → CostGraph
graph_of threads parents = record { threads = threads; parents = lists parents }

abbrev pub view : Inside → CostGraph
view a = graph_of a.threads.items a.parents.items

-- for each vertex its children
pub record IsTurned (g : CostGraph) (children : List (List ℕ)) : Type 0 where
  pub covers : length children ≡ vertex_total g
  pub are : (u : ℕ) → u < vertex_total g → get_or children u [] ≡ children_at g u

-- for each thread its first vertex
pub record AreFirsts (g : CostGraph) (firsts : List ℕ) : Type 0 where
  pub covers : length firsts ≡ thread_total g
  pub are : (t : ℕ) → t < thread_total g → get_or firsts t 0 ≡ first_vertex g t

-- for each vertex its thread
pub record AreOwners (g : CostGraph) (owners : List ℕ) : Type 0 where
  pub covers : length owners ≡ vertex_total g
  pub are : (v : ℕ) → v < vertex_total g → IsOwner g v (get_or owners v 0)

pub record IsKept (a : Inside) : Type 0 where
  pub graph : IsGraph (view a)
  pub turned : IsTurned (view a) (short_lists a.children.items)
  pub firsts : AreFirsts (view a) a.firsts.items
  pub owners : AreOwners (view a) a.owners.items
