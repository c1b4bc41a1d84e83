-- What has rows, and the steps of vertices, counted from 1.
use Rattle.std.specs.Prelude.{◌≡◌, ℕ, ◌+◌, ◌<◌, ◌≤◌, List, length, get_or}
use Rattle.std.specs.List.{All, Contains}
use Rattle.cost_graph.specs.declared.graph.Thread.{Thread}
use Rattle.cost_graph.specs.Graph.{CostGraph, IsAcyclic, IsWellFormed, IsVertexBelow}
use Rattle.prompt_checker.specs.Schedule.{IsPrompt, step_at}

-- the steps are a prompt schedule on so many cores of a well-formed graph without cycles, over so many priorities
pub record IsReported (g : CostGraph) (names : ℕ) (pairs : List (ℕ × ℕ)) (cores : ℕ) (steps : List (List ℕ)) : Type 0 where
  pub acyclic : IsAcyclic g
  pub well_formed : IsWellFormed g pairs
  pub prompt : IsPrompt g (IsVertexBelow g pairs) cores steps
  pub some : 1 ≤ cores
  pub few : cores ≤ 1024
  pub priorities : All (λ (t : Thread). t.priority < names) g.threads

-- each vertex of a step has the step's number
abbrev pub ArePlaces : List (List ℕ) → List ℕ → Type 0
ArePlaces steps places = (i v : ℕ) → i < length steps → Contains (step_at steps i) v → get_or places v 0 ≡ i + 1

-- the greatest of the numbers of the vertices, 0 where there are none
pub record IsRelease (places vertices : List ℕ) (from : ℕ) : Type 0 where
  pub upper : (v : ℕ) → Contains vertices v → get_or places v 0 ≤ from
  pub reached : 0 < from → (v : ℕ) × Contains vertices v × (get_or places v 0 ≡ from)
