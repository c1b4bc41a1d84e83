use Rattle.std.proofs.Common.{◌≡◌, ℕ, ◌<◌, ◌↔◌, ◌⊎◌, ◌++◌, ◌∷◌, [], List, length, get_or, map, refl, ap, ◌∙◌, subst, arith}
use Rattle.std.specs.List.{Contains}
use Rattle.std.proofs.lemmas.List.{map-append}
use Rattle.cost_graph.specs.Graph.{CostGraph, IsVertexBelow}
use Rattle.cost_graph.specs.Frontier.{Progress}
use Rattle.prompt_checker.specs.Plan.{IsPlan}
use Rattle.prompt_planner.proofs.Going.{starting, going_next, falls_next, runs_at, IsGoing}
use Rattle.prompt_planner.proofs.Unique.{plan_unique}
use Rattle.prompt_planner.proofs.Prompt.{plan_is_prompt}
use Rattle.prompt_planner.proofs.planner.plan_by_lanes.Goals as goal

pub steps-init : goal.steps-init
steps-init c =
    let keyed = subst (λ l. (k : ℕ × ℕ) → Contains c.add_ready.new.ready.keys k ↔ (Contains l k ⊎ (Contains c.in_ok-start.start.items k.1 × (k.0 ≡ get_or c.args.lanes.now k.1 0)))) c.new-ready.ensures.empty c.in_ok-add_ready.ensures in
    rw c.new-steps.ensures.items (starting c.args.graph.now c.args.lanes.now c.args.cores c.in_ok-frontier.frontier c.in_ok-start.start.items c.add_ready.new.ready.keys c.in_ok-frontier.ensures c.in_ok-start.ensures.are keyed)

pub step-requires : goal.step-requires
step-requires c =
    runs_at c.args.graph.now c.args.lanes.now c.args.cores c.steps.frontier c.steps.ready.keys (map (λ s. s.items) c.steps.steps.items) c.steps.invariant c.len.ensures.ordered c.in_ok-step.step.items c.in_ok-step.ensures.taken

pub steps-smaller : goal.steps-smaller
steps-smaller c =
    let some : 0 < length c.steps.ready.keys = omega (arith, c.len.ensures.len, c.steps-test.true) in
    falls_next c.args.graph.now c.args.lanes.now c.args.cores c.steps.frontier c.steps.ready.keys (map (λ s. s.items) c.steps.steps.items) c.steps.invariant c.len.ensures.ordered c.requires.cores some c.in_ok-step.step.items c.step.new.self c.in_ok-step.ensures.taken c.in_ok-freed.ensures.ran

pub steps-preserved : goal.steps-preserved
steps-preserved c =
    let some : 0 < length c.steps.ready.keys = omega (arith, c.len.ensures.len, c.steps-test.true) in
    let pushed : map (λ s. s.items) c.push.new.self.items ≡ map (λ s. s.items) c.steps.steps.items ++ c.in_ok-step.step.items ∷ [] =
    ap (map (λ s. s.items)) c.in_ok-push.ensures.items ∙ map-append (λ s. s.items) c.steps.steps.items (c.in_ok-step.step ∷ []) in
    let keys =
    subst (λ l. (k : ℕ × ℕ) → Contains c.add_ready-in-steps.new.ready.keys k ↔ (Contains l k ⊎ (Contains c.in_ok-freed.freed.items k.1 × (k.0 ≡ get_or c.args.lanes.now k.1 0)))) c.in_ok-step.ensures.left c.in_ok-add_ready-2.ensures in
    going_next c.args.graph.now c.args.lanes.now c.args.cores c.steps.frontier c.steps.ready.keys (map (λ s. s.items) c.steps.steps.items) c.steps.invariant c.len.ensures.ordered c.requires.cores some
    c.in_ok-step.step.items c.in_ok-freed.freed.items c.step.new.self c.add_ready-in-steps.new.ready.keys (map (λ s. s.items) c.push.new.self.items)
    (record { first = c.in_ok-step.ensures.taken; comes = c.in_ok-freed.ensures.freed; are = keys })
    c.step.ensures.graph c.in_ok-freed.ensures.ran pushed

planned : (g : CostGraph) (lanes : List ℕ) (cores : ℕ) (at : Progress) (keys : List (ℕ × ℕ)) (steps : List (List ℕ)) → IsGoing g lanes cores at keys steps → length keys ≡ 0 → IsPlan g lanes cores steps
planned g lanes cores at keys steps now none =
    record {
      each = now.begun.each;
      none_left = λ v r.
          let k = (now.keyed (get_or lanes v 0) v).1 (r, refl) in
          let past : k.0 < 0 = omega (arith, k.1, none) in
          omega (arith, past);
    }

pub returns-clause-plan : goal.returns-clause-plan
returns-clause-plan c = planned c.args.graph.now c.args.lanes.now c.args.cores c.steps.frontier c.steps.ready.keys (map (λ s. s.items) c.steps.steps.items) c.steps.invariant (omega (arith, c.len.ensures.len, c.steps-test.false))

pub returns-clause-unique : goal.returns-clause-unique
returns-clause-unique c = λ other p.
    plan_unique c.args.graph.now c.args.lanes.now c.args.cores other (map (λ s. s.items) c.steps.steps.items) p
    (planned c.args.graph.now c.args.lanes.now c.args.cores c.steps.frontier c.steps.ready.keys (map (λ s. s.items) c.steps.steps.items) c.steps.invariant (omega (arith, c.len.ensures.len, c.steps-test.false)))

pub returns-clause-prompt : goal.returns-clause-prompt
returns-clause-prompt c = λ pairs acyclic fit.
    plan_is_prompt c.args.graph.now c.args.lanes.now c.args.cores (map (λ s. s.items) c.steps.steps.items)
    (planned c.args.graph.now c.args.lanes.now c.args.cores c.steps.frontier c.steps.ready.keys (map (λ s. s.items) c.steps.steps.items) c.steps.invariant (omega (arith, c.len.ensures.len, c.steps-test.false)))
    c.vertex_count-count.ensures.kept acyclic (IsVertexBelow c.args.graph.now pairs) fit
