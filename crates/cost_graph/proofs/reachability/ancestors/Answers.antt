use Rattle.std.proofs.Common.{arith, ◌≡◌, ℕ, ◌<◌, ◌-◌, suc, length, get_or, true, subst, sym, ◌↔◌}
use Rattle.std.specs.List.{All}
use Rattle.cost_graph.specs.Graph.{children_at}
use Rattle.cost_graph.specs.Inside.Order.{HasWay}
use Rattle.cost_graph.proofs.Above.{IsAbove, above_on, above_end, order_below, all_children_below}
use Rattle.cost_graph.proofs.reachability.ancestors.Goals as goal

pub children_of-requires : goal.children_of-requires
children_of-requires c =
    let lt : c.places.place - 1 < length c.args.order.now = omega (arith, c.places.invariant.low, c.places-test.true) in
    order_below c.args.graph.now c.args.order.now (c.places.place - 1) c.requires.order lt

pub has_way-above-requires : goal.has_way-above-requires
has_way-above-requires c =
    let at = c.children_of.ensures in
    subst (λ l. All (λ v. v < length c.places.marks.items) l) (sym at)
    (subst (λ n. All (λ v. v < n) (children_at c.args.graph.now (get_or c.args.order.now (c.places.place - 1) 0))) (sym c.places.invariant.size) (all_children_below c.args.graph.now (get_or c.args.order.now (c.places.place - 1) 0)))

pub index_mut-requires : goal.index_mut-requires
index_mut-requires c =
    let lt : c.places.place - 1 < length c.args.order.now = omega (arith, c.places.invariant.low, c.places-test.true) in
    let small = order_below c.args.graph.now c.args.order.now (c.places.place - 1) c.requires.order lt in
    omega (arith, small, c.places.invariant.size, c.places.marks.ok.0)

pub places-preserved : goal.places-preserved
places-preserved c =
    let g = c.args.graph.now in
    let order = c.args.order.now in
    let p : ℕ = c.places.place - 1 in
    let e : c.places.place ≡ suc p = omega (arith, c.places-test.true) in
    let now = subst (IsAbove g order c.args.target c.places.marks.items) e c.places.invariant in
    above_on g order c.args.target c.places.marks.items p c.has_way-above.result c.requires.acyclic c.requires.order now
    (subst (λ l. (c.has_way-above.result ≡ true) ↔ HasWay c.places.marks.items l c.args.target) c.children_of.ensures c.has_way-above.ensures)

pub returns : goal.returns
returns c =
    let e : c.places.place ≡ 0 = omega (arith, c.places-test.false) in
    above_end c.args.graph.now c.args.order.now c.args.target c.places.marks.items c.requires.order (subst (IsAbove c.args.graph.now c.args.order.now c.args.target c.places.marks.items) e c.places.invariant)
