-- What marks and counts say while they change.
use Rattle.std.specs.Prelude.{ℕ, List, [], ◌∷◌, ◌++◌, set, Bool, true, cond}
use Rattle.std.specs.List.{list_all, filter, sum_by}
use Rattle.cost_graph.specs.Graph.{CostGraph, parents_at, children_at}
use Rattle.cost_graph.specs.Marks.{is_marked}

-- the marks after these vertices
abbrev pub marks_after : List Bool → List ℕ → List Bool
marks_after marks [] = marks
marks_after marks (v ∷ vs) = marks_after (set marks v true) vs

-- each parent of v is marked
abbrev pub is_free : CostGraph → List Bool → ℕ → Bool
is_free g marks v = list_all (is_marked marks) (parents_at g v)

-- the vertices that these free, one after the other
abbrev pub freed_by : CostGraph → List Bool → List ℕ → List ℕ
freed_by g marks [] = []
freed_by g marks (v ∷ vs) = filter (is_free g (set marks v true)) (children_at g v) ++ freed_by g (set marks v true) vs

-- how many marks are not set
abbrev pub unmarked : List Bool → ℕ
unmarked marks = sum_by (λ b. cond b 0 1) marks
