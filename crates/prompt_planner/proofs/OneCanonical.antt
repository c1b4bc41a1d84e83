-- A graph has at most one canonical plan: its lanes are one list, and by them there is one plan.
use Rattle.std.proofs.Common.{◌≡◌, ℕ, ◌<◌, List, get_or, sym, ◌∙◌, subst, arith}
use Rattle.std.proofs.lemmas.List.{ext_get_or}
use Rattle.priority_order.specs.Order.{HasLane}
use Rattle.priority_order.proofs.Placed.{stands, one_place}
use Rattle.cost_graph.specs.Graph.{CostGraph, vertex_total, vertex_priority}
use Rattle.prompt_checker.specs.Plan.{IsPlan}
use Rattle.prompt_planner.specs.Lanes.{AreLanesOf}
use Rattle.prompt_planner.specs.Laws.{OneCanonicalPlan}
use Rattle.prompt_planner.proofs.Unique.{plan_unique}

module _ (pairs : List (ℕ × ℕ)) (count : ℕ) where
  one_lane : (a j k : ℕ) → HasLane pairs count a j → HasLane pairs count a k → j ≡ k
  one_lane a j k x y = one_place pairs count y.lanes y.are a j k (stands pairs count y.lanes y.are a j x) y.is

  pub one_lanes : (g : CostGraph) (a b : List ℕ) → AreLanesOf g pairs count a → AreLanesOf g pairs count b → a ≡ b
  one_lanes g a b x y =
      ext_get_or 0 a b (x.covers ∙ sym y.covers) (λ v lt.
      let in_graph : v < vertex_total g = omega (arith, lt, x.covers) in
      one_lane (vertex_priority g v) (get_or a v 0) (get_or b v 0) (x.each v in_graph) (y.each v in_graph))

pub canonical_one : OneCanonicalPlan
canonical_one g pairs count cores a b p q =
    plan_unique g q.lanes cores a b (subst (λ l. IsPlan g l cores a) (one_lanes pairs count g p.lanes q.lanes p.are q.are) p.plan) q.plan
