-- The canonical plan.
use Rattle.std.specs.Prelude.{◌≡◌, ℕ, ◌<◌, ◌↔◌, List, [], length, take, get_or, map}
use Rattle.std.specs.List.{concat, Contains}
use Rattle.std.specs.List.Sorted.{IsStrictlySortedBy}
use Rattle.std.specs.Ordering.{nat_cmp, ordering_then}
use Rattle.std.specs.declared.cmp.Ordering.{Ordering}
use Rattle.cost_graph.specs.Graph.{CostGraph}
use Rattle.cost_graph.specs.Marks.{IsReady}
use Rattle.prompt_checker.specs.Schedule.{vertices_before}

-- by the first number, then by the second
abbrev pub pair_cmp : ℕ × ℕ → ℕ × ℕ → Ordering
pair_cmp a b = ordering_then (nat_cmp a.0 b.0) (nat_cmp a.1 b.1)

-- the ready vertices, each behind its lane, in order; vertices are numbered in the order of path and number
pub record IsReadyList (g : CostGraph) (lanes : List ℕ) (done : List ℕ) (keys : List (ℕ × ℕ)) : Type 0 where
  pub rising : IsStrictlySortedBy pair_cmp keys
  pub are : (k : ℕ × ℕ) → Contains keys k ↔ (IsReady g done k.1 × (k.0 ≡ get_or lanes k.1 0))

-- a step is the first ready vertices in order
pub record IsPlanned (g : CostGraph) (lanes : List ℕ) (cores : ℕ) (done step : List ℕ) : Type 0 where
  pub keys : List (ℕ × ℕ)
  pub ready : IsReadyList g lanes done keys
  pub first : step ≡ map (λ k. k.1) (take cores keys)
  pub some : 0 < length step

-- each step in turn, until none is ready; `lanes` has the lane of each vertex
pub record IsPlan (g : CostGraph) (lanes : List ℕ) (cores : ℕ) (steps : List (List ℕ)) : Type 0 where
  pub each : (i : ℕ) → i < length steps → IsPlanned g lanes cores (vertices_before steps i) (get_or steps i [])
  pub none_left : (v : ℕ) → IsReady g (concat steps) v → ⊥
