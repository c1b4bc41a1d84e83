-- What holds of the canonical plans of every graph.
use Rattle.std.specs.Prelude.{◌≡◌, ℕ, ◌<◌, ◌≤◌, List}
use Rattle.std.specs.List.{All}
use Rattle.priority_order.specs.Order.{IsLawful}
use Rattle.cost_graph.specs.declared.graph.Thread.{Thread}
use Rattle.cost_graph.specs.Graph.{CostGraph, IsGraph, IsAcyclic, IsVertexBelow}
use Rattle.prompt_checker.specs.Schedule.{IsPrompt}
use Rattle.prompt_planner.specs.Lanes.{IsCanonical}

-- a graph has at most one canonical plan on so many cores
abbrev pub OneCanonicalPlan : Type 0
OneCanonicalPlan =
    (g : CostGraph) (pairs : List (ℕ × ℕ)) (count cores : ℕ) (a b : List (List ℕ)) →
    IsCanonical g pairs count cores a → IsCanonical g pairs count cores b → a ≡ b

-- and one over each lawful order that has the priorities of its threads
abbrev pub SomeCanonicalPlan : Type 0
SomeCanonicalPlan =
    (g : CostGraph) (pairs : List (ℕ × ℕ)) (count cores : ℕ) → IsGraph g → IsLawful pairs →
    All (λ (t : Thread). t.priority < count) g.threads → 1 ≤ cores → (steps : List (List ℕ)) × IsCanonical g pairs count cores steps

-- a canonical plan of a graph without cycles is prompt
abbrev pub CanonicalPlansArePrompt : Type 0
CanonicalPlansArePrompt =
    (g : CostGraph) (pairs : List (ℕ × ℕ)) (count cores : ℕ) (steps : List (List ℕ)) →
    IsGraph g → IsAcyclic g → IsCanonical g pairs count cores steps → IsPrompt g (IsVertexBelow g pairs) cores steps
