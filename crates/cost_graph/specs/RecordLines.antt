-- What the lines of a graph say of the threads whose graph it is.
use Rattle.std.specs.Prelude.{◌≡◌, ◌⊎◌, ℕ, ◌<◌, List, [], codes}
use Rattle.cost_graph.specs.Graph.{CostGraph, Vertex, thread_total, vertex_total, thread_at, name_of}
use Rattle.cost_graph.specs.Records.{Part, Spawns, Joins}
use Rattle.cost_graph.specs.Text.{edge_text, spawn_lines, join_lines}

-- u is the only vertex with an edge of E to v
pub record IsOnly (E : Vertex → Vertex → Type 0) (u v : Vertex) : Type 0 where
  pub edge : E u v
  pub only : (w : Vertex) → E w v → w ≡ u

-- the text is the line of the edge of E to v, and empty where there is none
abbrev pub IsLineOf : (Vertex → Vertex → Type 0) → List ℕ → Vertex → List ℕ → Type 0
IsLineOf E kind v text = ((u : Vertex) × IsOnly E u v × (text ≡ edge_text kind u v)) ⊎ (((u : Vertex) → E u v → ⊥) × (text ≡ []))

-- the lines of the graph are those of the Spawn of each thread, and of each Join
pub record HasLinesOf (xs : List Part) (g : CostGraph) : Type 0 where
  pub spawns : (t : ℕ) → t < thread_total g → IsLineOf (Spawns xs) (codes "spawn") (record { path = (thread_at g t).path; number = 0 }) (spawn_lines g t)
  pub joins : (v : ℕ) → v < vertex_total g → IsLineOf (Joins xs) (codes "join") (name_of g v) (join_lines g v)
