use Rattle.std.proofs.Common.{◌≡◌, ℕ, ◌<◌, List, length, get_or, inl, inr, subst, sym, ap, ◌∙◌, arith}
use Rattle.std.proofs.lemmas.Bool.{both_ways, cases_lt}
use Rattle.cost_graph.specs.Graph.{parents_at}
use Rattle.cost_graph.proofs.Members.{parents_seen}
use Rattle.prompt_checker.specs.Inside.Watch.{IsEarly}
use Rattle.prompt_checker.proofs.marks.first_early.Goals as goal

pub returns-then-not-parents_have_run : goal.returns-then-not-parents_have_run
returns-then-not-parents_have_run c =
    let p = c.args.frontier.now in
    let line = c.args.line.now.items in
    let i = c.loop-vertex.vertex-index in
    let same = c.deref-vertex-items.ensures.value in
    let v : ℕ = get_or c.deref-vertex-items.result.now i 0 in
    let lt : i < length line = omega (arith, c.loop-vertex-test.true, ap length same) in
    let at : v ≡ get_or line i 0 = ap (λ (l : List ℕ). get_or l i 0) same in
    let early : IsEarly p.graph p.ran i v =
    elim (parents_seen p.ran (parents_at p.graph v)) [
      | inl all ↦ absurd (both_ways c.parents_have_run.result c.if-not-parents_have_run.true (c.parents_have_run.ensures.1 all))
      | inr q ↦ (q.0, q.1, q.2)
    ] in
    (i, lt, sym at, early, c.loop-vertex.invariant)

pub loop-vertex-preserved : goal.loop-vertex-preserved
loop-vertex-preserved c = λ k lt e.
    let p = c.args.frontier.now in
    let line = c.args.line.now.items in
    let i = c.loop-vertex.vertex-index in
    elim (cases_lt k i) [
      | inl less ↦ c.loop-vertex.invariant k less e
      | inr late ↦ (
          let k_is : k ≡ i = omega (arith, late, lt) in
          let at : get_or line k 0 ≡ get_or c.deref-vertex-items.result.now i 0 = ap (λ j. get_or line j 0) k_is ∙ sym (ap (λ (l : List ℕ). get_or l i 0) c.deref-vertex-items.ensures.value) in
          let moved = subst (IsEarly p.graph p.ran k) at e in
          moved.2 (c.parents_have_run.ensures.0 c.if-not-parents_have_run.false moved.0 moved.1))
    ]

pub returns : goal.returns
returns c = λ k lt.
    let small : k < c.loop-vertex.vertex-index = omega (arith, lt, c.loop-vertex-test.false, ap length c.deref-vertex-items.ensures.value) in
    c.loop-vertex.invariant k small
