-- Valid and prompt schedules. A schedule is a list of steps, each a list of vertices; steps are counted from 0 here.
use Rattle.std.specs.Prelude.{ℕ, ◌<◌, ◌≤◌, ◌↔◌, List, [], length, take, get_or, nat_eq}
use Rattle.std.specs.List.{concat, Contains, IsDistinct}
use Rattle.cost_graph.specs.Graph.{CostGraph, Edge, vertex_total}
use Rattle.cost_graph.specs.Marks.{IsReady}

-- the vertices of the steps before step i
abbrev pub vertices_before : List (List ℕ) → ℕ → List ℕ
vertices_before steps i = concat (take i steps)

abbrev pub step_at : List (List ℕ) → ℕ → List ℕ
step_at steps i = get_or steps i []

-- each vertex stands once, after its parents, and each step has 1 to `cores` vertices
pub record IsValid (g : CostGraph) (cores : ℕ) (steps : List (List ℕ)) : Type 0 where
  pub once : IsDistinct nat_eq (concat steps)
  pub all : (v : ℕ) → v < vertex_total g ↔ Contains (concat steps) v
  pub after : (i v : ℕ) → i < length steps → Contains (step_at steps i) v → (u : ℕ) → Edge g u v → Contains (vertices_before steps i) u
  pub filled : (i : ℕ) → i < length steps → 0 < length (step_at steps i)
  pub fits : (i : ℕ) → i < length steps → length (step_at steps i) ≤ cores

-- and where a ready vertex is left out, the step is full and has no vertex below it
pub record IsPrompt (g : CostGraph) (below : ℕ → ℕ → Type 0) (cores : ℕ) (steps : List (List ℕ)) : Type 0 where
  pub valid : IsValid g cores steps
  pub busy : (i u : ℕ) → i < length steps → IsReady g (vertices_before steps i) u → (Contains (step_at steps i) u → ⊥) → cores ≤ length (step_at steps i)
  pub fair : (i v u : ℕ) → i < length steps → Contains (step_at steps i) v →
      IsReady g (vertices_before steps i) u → (Contains (step_at steps i) u → ⊥) → below v u → ⊥
