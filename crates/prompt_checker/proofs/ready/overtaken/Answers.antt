use Rattle.std.proofs.Common.{◌≡◌, ℕ, ◌<◌, List, length, get_or, Some, ap, ◌∙◌, subst, arith, below_more}
use Rattle.cost_graph.specs.Graph.{vertex_priority}
use Rattle.prompt_checker.specs.Inside.Watch.{IsHeld}
use Rattle.prompt_checker.proofs.Held.{overtaken_made}
use Rattle.prompt_checker.proofs.ready.overtaken.Goals as goal

pub loop-vertex-preserved : goal.loop-vertex-preserved
loop-vertex-preserved c =
    let g = c.args.graph.now in
    let line = c.args.line.now.items in
    let i = c.loop-vertex.vertex-index in
    let low : c.priority_of_vertex-low.result ≡ vertex_priority g (get_or line i 0) = c.priority_of_vertex-low.ensures.is ∙ ap (λ (l : List ℕ). vertex_priority g (get_or l i 0)) c.deref-vertex-items.ensures.value in
    below_more (λ k. (u : ℕ) → IsHeld c.args.order.now.pairs c.args.ready.now.items (Some (vertex_priority g (get_or line k 0))) u → ⊥) i c.loop-vertex.invariant
    (subst (λ a. (u : ℕ) → IsHeld c.args.order.now.pairs c.args.ready.now.items (Some a) u → ⊥) low c.in_default.ensures)

pub returns-in-Some : goal.returns-in-Some
returns-in-Some c =
    let line = c.args.line.now.items in
    let i = c.loop-vertex.vertex-index in
    let lt : i < length line = omega (arith, c.loop-vertex-test.true, ap length c.deref-vertex-items.ensures.value) in
    let at : get_or c.deref-vertex-items.result.now i 0 ≡ get_or line i 0 = ap (λ (l : List ℕ). get_or l i 0) c.deref-vertex-items.ensures.value in
    overtaken_made c.args.graph.now c.args.order.now.pairs c.args.ready.now.items line i c.priority_of_vertex-low.result (get_or c.deref-vertex-items.result.now i 0) c.in-Some.other lt at c.priority_of_vertex-low.ensures.is c.in-Some.ensures c.loop-vertex.invariant

pub returns : goal.returns
returns c = λ k lt.
    let small : k < c.loop-vertex.vertex-index = omega (arith, lt, c.loop-vertex-test.false, ap length c.deref-vertex-items.ensures.value) in
    c.loop-vertex.invariant k small
