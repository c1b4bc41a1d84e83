use Rattle.std.proofs.Common.{arith, ◌≡◌, ◌<◌, length, get_or, true, subst, sym, ◌↔◌}
use Rattle.std.specs.List.{All}
use Rattle.cost_graph.specs.Graph.{parents_at}
use Rattle.cost_graph.specs.Inside.Order.{HasWay}
use Rattle.cost_graph.proofs.Visits.{parents_below}
use Rattle.cost_graph.proofs.Above.{IsBeneath, beneath_on, beneath_end, order_below}
use Rattle.cost_graph.proofs.reachability.descendants.Goals as goal

pub parents_of-requires : goal.parents_of-requires
parents_of-requires c = order_below c.args.graph.now c.args.order.now c.loop-vertex.vertex-index c.requires.order c.loop-vertex-test.true

pub has_way-beneath-requires : goal.has_way-beneath-requires
has_way-beneath-requires c =
    let v = get_or c.args.order.now c.loop-vertex.vertex-index 0 in
    subst (λ l. All (λ u. u < length c.loop-vertex.marks.items) l) (sym c.parents_of.ensures)
    (subst (λ n. All (λ u. u < n) (parents_at c.args.graph.now v)) (sym c.loop-vertex.invariant.size) (parents_below c.args.graph.now v c.vertex_count-count.ensures.kept))

pub index_mut-requires : goal.index_mut-requires
index_mut-requires c =
    let small = order_below c.args.graph.now c.args.order.now c.loop-vertex.vertex-index c.requires.order c.loop-vertex-test.true in
    omega (arith, small, c.loop-vertex.invariant.size, c.loop-vertex.marks.ok.0)

pub loop-vertex-preserved : goal.loop-vertex-preserved
loop-vertex-preserved c =
    beneath_on c.args.graph.now c.args.order.now c.args.source c.loop-vertex.marks.items c.loop-vertex.vertex-index c.has_way-beneath.result c.loop-vertex-test.true c.requires.acyclic c.requires.order c.loop-vertex.invariant
    (subst (λ l. (c.has_way-beneath.result ≡ true) ↔ HasWay c.loop-vertex.marks.items l c.args.source) c.parents_of.ensures c.has_way-beneath.ensures)

pub returns : goal.returns
returns c =
    let e : c.loop-vertex.vertex-index ≡ length c.args.order.now = omega (arith, c.loop-vertex.auto.vertex-index-end, c.loop-vertex-test.false) in
    beneath_end c.args.graph.now c.args.order.now c.args.source c.loop-vertex.marks.items c.requires.order (subst (IsBeneath c.args.graph.now c.args.order.now c.args.source c.loop-vertex.marks.items) e c.loop-vertex.invariant)
