-- The text of vertices and graphs.
use Rattle.std.specs.Prelude.{ℕ, ◌+◌, List, [], ◌∷◌, ◌++◌, if◌then◌else◌, not, codes, get_or, nat_eq}
use Rattle.std.specs.List.{flat_map, filter, range_with_len}
use Rattle.std.specs.Fmt.{decimal}
use Rattle.priml_syntax.specs.Text.{path_text}
use Rattle.cost_graph.specs.declared.graph.Thread.{Thread}
use Rattle.cost_graph.specs.Graph.{CostGraph, Vertex, vertex_total, thread_total, parents_at, first_vertex, name_of}

-- a path, a colon and a number
abbrev pub name_text : Vertex → List ℕ
name_text v = path_text v.path ++ codes ":" ++ decimal v.number

abbrev pub vertex_text : CostGraph → ℕ → List ℕ
vertex_text g v = name_text (name_of g v)

-- the line of a thread: its path, its priority's name and the number of its vertices
abbrev pub thread_line : List (List ℕ) → Thread → List ℕ
thread_line names t = codes "thread " ++ path_text t.path ++ codes " " ++ get_or names t.priority [] ++ codes " " ++ decimal t.vertices ++ 10 ∷ []

-- the line of an edge of this kind, by the names of its ends
abbrev pub edge_text : List ℕ → Vertex → Vertex → List ℕ
edge_text kind u v = kind ++ codes " " ++ name_text u ++ codes " " ++ name_text v ++ 10 ∷ []

-- the line of an edge of this kind to v from u
abbrev pub edge_line : CostGraph → List ℕ → ℕ → ℕ → List ℕ
edge_line g kind v u = edge_text kind (name_of g u) (name_of g v)

-- an edge to the first vertex of a thread is the Spawn of that thread
abbrev pub spawn_lines : CostGraph → ℕ → List ℕ
spawn_lines g t = flat_map (edge_line g (codes "spawn") (first_vertex g t)) (parents_at g (first_vertex g t))

-- an edge to a later vertex of a thread is a Join, but for the one from the vertex before it
abbrev pub joins_to : ℕ → List ℕ → List ℕ
joins_to v = filter (λ u. not (nat_eq (u + 1) v))

abbrev pub join_lines : CostGraph → ℕ → List ℕ
join_lines g v = if nat_eq (name_of g v).number 0 then [] else flat_map (edge_line g (codes "join") v) (joins_to v (parents_at g v))

-- the spawn edges in the order of the threads
abbrev pub all_spawn_lines : CostGraph → List ℕ
all_spawn_lines g = flat_map (spawn_lines g) (range_with_len 0 (thread_total g))

-- the join edges in the order of the vertices that they lead to
abbrev pub all_join_lines : CostGraph → List ℕ
all_join_lines g = flat_map (join_lines g) (range_with_len 0 (vertex_total g))

-- the threads in the order of their paths, then the spawn edges, then the join edges
abbrev pub graph_lines : CostGraph → List (List ℕ) → List ℕ
graph_lines g names = flat_map (thread_line names) g.threads ++ all_spawn_lines g ++ all_join_lines g
