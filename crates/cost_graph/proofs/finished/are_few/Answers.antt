use Rattle.std.proofs.Common.{◌≡◌, ◌+◌, ◌-◌, ◌<◌, ◌≤◌, length, refl, sym, ap, subst, arith, List}
use Rattle.std.proofs.lemmas.Bool.{false≢true}
use Rattle.priml_syntax.specs.declared.event.Event.{Event}
use Rattle.cost_graph.specs.Records.{parts_in}
use Rattle.cost_graph.specs.Inside.Tables.{first_in}
use Rattle.cost_graph.proofs.JobEnds.{left_on, left_short, left_all}
use Rattle.cost_graph.proofs.finished.are_few.Goals as goal

pub returns-then-events-left : goal.returns-then-events-left
returns-then-events-left c =
    let r = c.one-item.result in
    let long : length c.as_slice-events.result.now ≡ length r.events.items = ap (λ (l : List Event). length l) c.as_slice-events.ensures.value in
    let less : c.loop-one.left < length r.events.items = omega (arith, long, c.if-events-left.true) in
    (λ e. absurd (false≢true e), λ few. absurd (left_short c.args.list.now c.loop-one.one-index c.loop-one.left r c.loop-one-test.true c.one-item.is less c.loop-one.invariant few))

pub loop-one-preserved : goal.loop-one-preserved
loop-one-preserved c =
    let rs = c.args.list.now in
    let i = c.loop-one.one-index in
    let r = c.one-item.result in
    let long : length c.as_slice-events.result.now ≡ length r.events.items = ap (λ (l : List Event). length l) c.as_slice-events.ensures.value in
    let le : length r.events.items ≤ c.loop-one.left = omega (arith, long, c.if-events-left.false) in
    subst (λ n. (c.loop-one.left - n) + first_in (parts_in rs) (i + 1) ≡ 4294967295) (sym long) (left_on rs i c.loop-one.left r c.loop-one-test.true c.one-item.is le c.loop-one.invariant)

pub returns : goal.returns
returns c =
    let all : c.loop-one.one-index ≡ length c.args.list.now = omega (arith, c.loop-one-test.false, c.loop-one.auto.one-index-end) in
    (λ _. left_all c.args.list.now c.loop-one.one-index c.loop-one.left all c.loop-one.invariant, λ _. refl)
