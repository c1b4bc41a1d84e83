use Rattle.std.proofs.Common.{◌≡◌, ◌<◌, ◌≤◌, ◌++◌, false, length, get_or, replicate, sym, subst, arith, rules}
use Rattle.std.proofs.lemmas.Grind.{common_steps}
use Rattle.std.specs.List.{filter}
use Rattle.cost_graph.specs.Graph.{children_at}
use Rattle.cost_graph.specs.Marks.{IsSeen}
use Rattle.cost_graph.specs.Inside.Marks.{is_free}
use Rattle.cost_graph.specs.Inside.Marks.{unmarked}
use Rattle.cost_graph.proofs.Sorting.{sorting_from, sorting_on, sorting_falls, before_cycles, sorted_or_stuck, next_in}
use Rattle.cost_graph.proofs.order.topological.Goals as goal

pub places-init : goal.places-init
places-init c =
    let a = c.in_ok-marks.ensures.items_if_clones_equal in
    let b = c.in_ok-seen.ensures.items_if_clones_equal in
    let n = c.vertex_count-count.result in
    let m : c.in_ok-marks.marks.items ≡ replicate n false = first_of (search rules, grind (arith, common_steps)) in
    let s : c.in_ok-seen.seen.items ≡ replicate n 0 = first_of (search rules, grind (arith, common_steps)) in
    rw (m, s, c.in_ok-order.ensures) (sorting_from c.args.graph.now n c.vertex_count-count.ensures.count)

pub pass-requires-clause-vertex_in : goal.pass-requires-clause-vertex_in
pass-requires-clause-vertex_in c = next_in c.args.graph.now c.places.marks.items c.places.seen.items c.places.order.items c.places.place c.places.invariant (omega (arith, c.places-test.true, c.len.ensures))

pub places-smaller : goal.places-smaller
places-smaller c =
    let lt : c.places.place < length c.places.order.items = omega (arith, c.places-test.true, c.len.ensures) in
    subst (λ l. unmarked l < unmarked c.places.marks.items) (sym c.in_ok-pass.ensures.marked) (sorting_falls c.args.graph.now c.places.marks.items c.places.seen.items c.places.order.items c.places.place c.places.invariant lt)

pub places-preserved : goal.places-preserved
places-preserved c =
    let g = c.args.graph.now in
    let lt : c.places.place < length c.places.order.items = omega (arith, c.places-test.true, c.len.ensures) in
    let v = get_or c.places.order.items c.places.place 0 in
    let m = c.in_ok-pass.ensures.marked in
    let watched = subst (λ l. IsSeen g l c.pass.new.seen.items) m c.in_ok-pass.ensures.watched in
    let order = subst (λ l. c.pass.new.order.items ≡ c.places.order.items ++ filter (is_free g l) (children_at g v)) m c.in_ok-pass.ensures.order in
    rw (m, order) (sorting_on g c.places.marks.items c.places.seen.items c.places.order.items c.places.place c.places.invariant lt c.pass.new.seen.items watched)

pub returns : goal.returns
returns c =
    let g = c.args.graph.now in
    let end : length c.places.order.items ≤ c.places.place = omega (arith, c.places-test.false, c.len.ensures) in
    record {
      order = before_cycles g c.places.marks.items c.places.seen.items c.places.order.items c.places.place c.places.invariant c.vertex_count-count.ensures.kept end;
      whole = sorted_or_stuck g c.places.marks.items c.places.seen.items c.places.order.items c.places.place c.places.invariant c.vertex_count-count.ensures.kept end;
    }
