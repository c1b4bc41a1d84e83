use Rattle.std.proofs.Common.{◌≡◌, ◌<◌, ℕ, List, length, subst, sym, ap, ◌∙◌}
use Rattle.std.proofs.lemmas.Result.{IfOk-weaker}
use Rattle.std.specs.List.{All}
use Rattle.cost_graph.specs.Graph.{vertex_total, IsAcyclic, IsVertexBelow}
use Rattle.prompt_checker.specs.Plan.{IsPlan}
use Rattle.prompt_checker.specs.Schedule.{IsPrompt}
use Rattle.prompt_checker.specs.Read.{steps_of}
use Rattle.prompt_planner.specs.Lanes.{LanesFit, IsCanonical}
use Rattle.prompt_planner.proofs.Within.{valid_within}
use Rattle.prompt_planner.proofs.planner.plan.Goals as goal

pub plan_by_lanes-requires-clause-lanes : goal.plan_by_lanes-requires-clause-lanes
plan_by_lanes-requires-clause-lanes c = ap length c.deref.ensures.value ∙ c.in_ok-lanes.ensures.are.covers

pub returns-clause-plan : goal.returns-clause-plan
returns-clause-plan c =
    let g = c.args.graph.now in
    let o = c.args.order.now in
    let lanes = c.in_ok-lanes.lanes.items in
    IfOk-weaker c.plan_by_lanes.result (λ s. IsPlan g c.deref.result.now c.args.cores (steps_of s)) (λ s. IsCanonical g o.pairs (length o.names) c.args.cores (steps_of s))
    (λ s p. record { lanes = lanes; are = c.in_ok-lanes.ensures.are; plan = subst (λ l. IsPlan g l c.args.cores (steps_of s)) c.deref.ensures.value p }) c.plan_by_lanes.ensures.plan

pub returns-clause-unique : goal.returns-clause-unique
returns-clause-unique c =
    let g = c.args.graph.now in
    let o = c.args.order.now in
    IfOk-weaker c.plan_by_lanes.result (λ s. (other : List (List ℕ)) → IsPlan g c.deref.result.now c.args.cores other → other ≡ steps_of s)
    (λ s. (other : List (List ℕ)) → IsCanonical g o.pairs (length o.names) c.args.cores other → other ≡ steps_of s)
    (λ s one other k. one other (subst (λ l. IsPlan g l c.args.cores other) (c.in_ok-lanes.ensures.only k.lanes k.are ∙ sym c.deref.ensures.value) k.plan)) c.plan_by_lanes.ensures.unique

pub returns-clause-prompt : goal.returns-clause-prompt
returns-clause-prompt c =
    let g = c.args.graph.now in
    let pairs = c.args.order.now.pairs in
    IfOk-weaker c.plan_by_lanes.result (λ s. (ps : List (ℕ × ℕ)) → IsAcyclic g → LanesFit g ps c.deref.result.now → IsPrompt g (IsVertexBelow g ps) c.args.cores (steps_of s))
    (λ s. IsPrompt g (IsVertexBelow g pairs) c.args.cores (steps_of s))
    (λ s h. h pairs c.requires.acyclic (subst (LanesFit g pairs) (sym c.deref.ensures.value) c.in_ok-lanes.ensures.fit)) c.plan_by_lanes.ensures.prompt

pub returns-clause-within : goal.returns-clause-within
returns-clause-within c =
    let g = c.args.graph.now in
    let pairs = c.args.order.now.pairs in
    IfOk-weaker c.plan_by_lanes.result (λ s. (ps : List (ℕ × ℕ)) → IsAcyclic g → LanesFit g ps c.deref.result.now → IsPrompt g (IsVertexBelow g ps) c.args.cores (steps_of s))
    (λ s. All (λ step. All (λ v. v < vertex_total g) step) (steps_of s))
    (λ s h. valid_within g c.args.cores (steps_of s) (h pairs c.requires.acyclic (subst (LanesFit g pairs) (sym c.deref.ensures.value) c.in_ok-lanes.ensures.fit)).valid) c.plan_by_lanes.ensures.prompt
