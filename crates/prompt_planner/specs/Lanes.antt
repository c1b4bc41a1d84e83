-- Lanes of vertices.
use Rattle.std.specs.Prelude.{◌≡◌, ℕ, ◌<◌, List, length, get_or}
use Rattle.priority_order.specs.Order.{HasLane}
use Rattle.cost_graph.specs.Graph.{CostGraph, vertex_total, vertex_priority, IsVertexBelow}
use Rattle.prompt_checker.specs.Plan.{IsPlan}

-- of two vertices of which one has a priority strictly below the other's, it has the greater lane
abbrev pub LanesFit : CostGraph → List (ℕ × ℕ) → List ℕ → Type 0
LanesFit g pairs lanes = (v u : ℕ) → v < vertex_total g → u < vertex_total g → IsVertexBelow g pairs v u → get_or lanes u 0 < get_or lanes v 0

-- for each vertex the lane that its priority has in the order of these pairs and so many priorities
pub record AreLanesOf (g : CostGraph) (pairs : List (ℕ × ℕ)) (count : ℕ) (lanes : List ℕ) : Type 0 where
  pub covers : length lanes ≡ vertex_total g
  pub each : (v : ℕ) → v < vertex_total g → HasLane pairs count (vertex_priority g v) (get_or lanes v 0)

-- the canonical plan by the lanes of the order
pub record IsCanonical (g : CostGraph) (pairs : List (ℕ × ℕ)) (count cores : ℕ) (steps : List (List ℕ)) : Type 0 where
  pub lanes : List ℕ
  pub are : AreLanesOf g pairs count lanes
  pub plan : IsPlan g lanes cores steps
