use Rattle.std.proofs.Common.{◌≡◌, ◌↔◌, ◌++◌, ℕ, List, Bool, ap, sym, ◌∙◌, subst}
use Rattle.std.specs.List.{Contains}
use Rattle.cost_graph.specs.Marks.{IsReady, IsDone, BecomesReady}
use Rattle.cost_graph.specs.Frontier.{Progress}
use Rattle.cost_graph.proofs.Frontiers.{all_found}
use Rattle.cost_graph.proofs.ReadyNext.{done_next, freed_becomes}
use Rattle.cost_graph.proofs.frontier.Frontier.step.Goals as goal

pub run_step-requires-clause-vertices : goal.run_step-requires-clause-vertices
run_step-requires-clause-vertices c =
    let f = c.self.inside in
    all_found f.graph.now f.ran.items c.args.vertices.now.items (λ v k. subst (λ (p : Progress). IsReady p.graph p.ran v) (sym c.self.view_is) (c.requires v k))

pub invariant_of-self-2 : goal.invariant_of-self-2
invariant_of-self-2 c =
    let f = c.self.inside in
    let g = f.graph.now in
    let vs = c.args.vertices.now.items in
    let next = done_next g f.marks.items f.ran.items vs c.self.invariant.done (λ v k. subst (λ (p : Progress). IsReady p.graph p.ran v) (sym c.self.view_is) (c.requires v k)) in
    let ran : c.note.new.ran.items ≡ f.ran.items ++ vs = c.note.ensures ∙ ap (λ (l : List ℕ). l ++ vs) c.reserve.ensures.items in
    record {
      watched = c.run_step.ensures.watched;
      done = subst (IsDone g c.run_step.new.marks.items) (sym ran) (subst (λ (m : List Bool). IsDone g m (f.ran.items ++ vs)) (sym c.in_ok-freed.ensures.marked) next);
    }

pub returns-clause-freed : goal.returns-clause-freed
returns-clause-freed c =
    let f = c.self.inside in
    let g = f.graph.now in
    let vs = c.args.vertices.now.items in
    let becomes = freed_becomes g f.marks.items f.ran.items vs c.self.invariant.done (λ v k. subst (λ (p : Progress). IsReady p.graph p.ran v) (sym c.self.view_is) (c.requires v k)) in
    subst (λ (p : Progress). (v : ℕ) → Contains c.in_ok-freed.freed.items v ↔ BecomesReady p.graph p.ran (p.ran ++ vs) v) c.self.view_is
    (subst (λ (l : List ℕ). (v : ℕ) → Contains l v ↔ BecomesReady g f.ran.items (f.ran.items ++ vs) v) (sym c.in_ok-freed.ensures.freed) becomes)

pub returns-clause-within : goal.returns-clause-within
returns-clause-within c =
    let p = c.args.self.now in
    let vs = c.args.vertices.now.items in
    all_found p.graph (p.ran ++ vs) c.in_ok-freed.freed.items (λ v k. ((returns-clause-freed c v).0 k).0)
