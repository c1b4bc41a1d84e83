-- A canonical plan is prompt: a priority below another has the greater lane.
use Rattle.std.proofs.Common.{ℕ, List, get_or}
use Rattle.priority_order.proofs.Placed.{placed}
use Rattle.cost_graph.specs.Graph.{CostGraph, vertex_priority, IsVertexBelow}
use Rattle.prompt_planner.specs.Lanes.{LanesFit, AreLanesOf}
use Rattle.prompt_planner.specs.Laws.{CanonicalPlansArePrompt}
use Rattle.prompt_planner.proofs.Prompt.{plan_is_prompt}

lanes_fit : (g : CostGraph) (pairs : List (ℕ × ℕ)) (count : ℕ) (lanes : List ℕ) → AreLanesOf g pairs count lanes → LanesFit g pairs lanes
lanes_fit g pairs count lanes are v u v_in u_in below =
    let own = are.each v v_in in
    (placed pairs count own.lanes own.are (vertex_priority g v) (get_or lanes v 0) own.is).above (vertex_priority g u) (get_or lanes u 0) (are.each u u_in) below

pub canonical_prompt : CanonicalPlansArePrompt
canonical_prompt g pairs count cores steps ok acyclic c =
    plan_is_prompt g c.lanes cores steps c.plan ok acyclic (IsVertexBelow g pairs) (lanes_fit g pairs count c.lanes c.are)
