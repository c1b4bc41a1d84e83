use Rattle.std.proofs.Common.{◌≡◌, ◌+◌, ◌++◌, ◌∷◌, [], arith, ap, sym, subst}
use Rattle.std.proofs.lemmas.Grind.{common_steps}
use Rattle.std.proofs.lemmas.Bool.{both_ways}
use Rattle.cost_graph.specs.Graph.{vertex_total}
use Rattle.cost_graph.specs.Marks.{IsReady}
use Rattle.cost_graph.specs.Frontier.{Progress}
use Rattle.cost_graph.proofs.Frontiers.{AreFound, found_yes, found_no, all_found}
use Rattle.cost_graph.proofs.frontier.Frontier.ready.Goals as goal
use Rattle.cost_graph.proofs.frontier.Frontier.ready.Goals.{then-is_ready+in_ok-push, else-is_ready}

pub loop-vertex-preserved : goal.loop-vertex-preserved
loop-vertex-preserved c =
    let p = c.args.self.now in
    let n = c.loop-vertex.vertex in
    elim c.if-is_ready.branch [
      | then-is_ready+in_ok-push w ↦
          let next : c.if-is_ready.found.items ≡ c.loop-vertex.found.items ++ n ∷ [] = grind (arith, common_steps, w.in_ok-push.ensures.items, w.found-is) in
          found_yes (IsReady p.graph p.ran) n c.loop-vertex.found.items c.if-is_ready.found.items c.loop-vertex.invariant (c.is_ready.ensures.0 w.if-is_ready.true) next
      | else-is_ready w ↦
          subst (λ f. AreFound (IsReady p.graph p.ran) (n + 1) f.items) (sym w.found-is)
          (found_no (IsReady p.graph p.ran) n c.loop-vertex.found.items c.loop-vertex.invariant (λ r. both_ways c.is_ready.result w.if-is_ready.false (c.is_ready.ensures.1 r)))
    ]

pub returns-clause-within : goal.returns-clause-within
returns-clause-within c = all_found c.args.self.now.graph c.args.self.now.ran c.loop-vertex.found.items (λ v k. ((c.loop-vertex.invariant v).0 k).1)

pub returns-clause-are : goal.returns-clause-are
returns-clause-are c =
    let same : vertex_total c.self.inside.graph.now ≡ vertex_total c.args.self.now.graph = ap (λ (p : Progress). vertex_total p.graph) c.self.view_is in
    λ v. (
      λ k. ((c.loop-vertex.invariant v).0 k).1,
      λ r. (c.loop-vertex.invariant v).1 (omega (arith, r.vertex, same, c.loop-vertex-test.false, c.vertex_count-vertex-end.ensures.count), r),
    )
