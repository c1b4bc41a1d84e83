use Rattle.std.proofs.Common.{◌≡◌, ℕ, ◌↔◌, List, cond, false, true, length, take, get_or, refl, ap, ◌∙◌, subst, arith}
use Rattle.std.specs.List.{Contains}
use Rattle.std.specs.Ordering.{nat_cmp}
use Rattle.std.specs.BTreeMap.{is_at}
use Rattle.std.specs.BTreeSet.{contains}
use Rattle.std.proofs.lemmas.Grind.{common_steps}
use Rattle.std.proofs.lemmas.List.{length-set}
use Rattle.cost_graph.specs.Graph.{vertex_priority}
use Rattle.cost_graph.proofs.Ends.{owned_below}
use Rattle.prompt_checker.specs.Inside.Watch.{holds}
use Rattle.prompt_checker.proofs.Held.{out_start, out_more}
use Rattle.prompt_checker.proofs.ready.take_out.Goals as goal

pub loop-vertex-init : goal.loop-vertex-init
loop-vertex-init c = out_start c.args.graph.now c.args.line.now.items c.args.ready.now.items

pub index_mut-requires : goal.index_mut-requires
index_mut-requires c = omega (arith, owned_below c.args.graph.now (length c.args.ready.now.items) c.priority_of_vertex-p.result c.requires.priorities c.priority_of_vertex-p.ensures.owned, c.loop-vertex.invariant.long)

pub loop-vertex-preserved : goal.loop-vertex-preserved
loop-vertex-preserved c =
    let g = c.args.graph.now in
    let line = c.args.line.now.items in
    let i = c.loop-vertex.vertex-index in
    let same = c.deref-vertex-items.ensures.value in
    let updates = subst (λ (l : List ℕ). (v : ℕ) → contains nat_cmp c.remove.new.self v ≡ cond (is_at (nat_cmp (get_or l i 0)) v) false (contains nat_cmp c.index_mut.result.now v)) same c.remove.ensures.updates.0 in
    out_more g line c.args.ready.now.items c.loop-vertex.ready.items _ i c.priority_of_vertex-p.result c.index_mut.result.now c.remove.new.self
    (omega (arith, c.loop-vertex-test.true, ap length same))
    (omega (arith, owned_below g (length c.args.ready.now.items) c.priority_of_vertex-p.result c.requires.priorities c.priority_of_vertex-p.ensures.owned, c.loop-vertex.invariant.long))
    c.index_mut.ensures.value refl (c.priority_of_vertex-p.ensures.is ∙ ap (λ (l : List ℕ). vertex_priority g (get_or l i 0)) same)
    (length-set c.loop-vertex.ready.items c.priority_of_vertex-p.result c.remove.new.self) updates c.loop-vertex.invariant

pub returns-clause-held : goal.returns-clause-held
returns-clause-held c =
    let g = c.args.graph.now in
    let all : take c.loop-vertex.vertex-index c.args.line.now.items ≡ c.args.line.now.items = grind (arith, common_steps) in
    subst (λ (l : List ℕ). (q v : ℕ) → (holds c.loop-vertex.ready.items q v ≡ true) ↔ ((holds c.args.ready.now.items q v ≡ true) × ((Contains l v × (vertex_priority g v ≡ q)) → ⊥))) all c.loop-vertex.invariant.are
