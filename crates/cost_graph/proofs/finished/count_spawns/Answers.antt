use Rattle.std.proofs.Common.{◌≡◌, ◌<◌, length, get_or, ap, subst, arith, List}
use Rattle.priml_syntax.specs.declared.event.Event.{Event}
use Rattle.cost_graph.proofs.JobEnds.{spawns_on, spawns_fit}
use Rattle.cost_graph.proofs.finished.count_spawns.Goals as goal

pub overflow_add-count : goal.overflow_add-count
overflow_add-count c =
    let es = c.args.events.now.items in
    let i = c.loop-event.event-index in
    let same = c.deref-event-items.ensures.value in
    let lt : i < length es = omega (arith, c.loop-event-test.true, ap (λ (l : List Event). length l) same) in
    let is = subst (λ (l : List Event). c.event-item.result ≡ get_or l i c.event-item.result) same c.event-item.is in
    omega (arith, spawns_fit es i c.event-item.result c.loop-event.count c.spawns_of-count.result lt is c.loop-event.invariant c.spawns_of-count.ensures, c.requires)

pub loop-event-preserved : goal.loop-event-preserved
loop-event-preserved c =
    let es = c.args.events.now.items in
    let i = c.loop-event.event-index in
    let same = c.deref-event-items.ensures.value in
    let lt : i < length es = omega (arith, c.loop-event-test.true, ap (λ (l : List Event). length l) same) in
    let is = subst (λ (l : List Event). c.event-item.result ≡ get_or l i c.event-item.result) same c.event-item.is in
    spawns_on es i c.event-item.result c.loop-event.count c.spawns_of-count.result lt is c.loop-event.invariant c.spawns_of-count.ensures
