-- The text of a schedule.
use Rattle.std.specs.Prelude.{ℕ, List, [], ◌∷◌, ◌++◌, codes}
use Rattle.std.specs.List.{flat_map}
use Rattle.cost_graph.specs.Graph.{CostGraph}
use Rattle.cost_graph.specs.Text.{vertex_text}

-- a vertex with a space before it
abbrev pub spaced : CostGraph → ℕ → List ℕ
spaced g v = codes " " ++ vertex_text g v

-- the vertices of a step with a space between
abbrev pub vertices_text : CostGraph → List ℕ → List ℕ
vertices_text g [] = []
vertices_text g (v ∷ vs) = vertex_text g v ++ flat_map (spaced g) vs

-- one line for each step
abbrev pub step_line : CostGraph → List ℕ → List ℕ
step_line g vs = vertices_text g vs ++ 10 ∷ []

abbrev pub schedule_text : CostGraph → List (List ℕ) → List ℕ
schedule_text g steps = flat_map (step_line g) steps
