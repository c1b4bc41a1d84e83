use Rattle.std.proofs.Common.{◌∙◌, ◌+◌, [], ◌∷◌, length, sym, ap, subst, arith}
use Rattle.std.proofs.lemmas.List.{length-append}
use Rattle.priority_order.specs.Order.{IsNext}
use Rattle.priority_order.proofs.Placed.{EachNext, each_next-none, each_next-push}
use Rattle.priority_order.proofs.lanes.lanes_of.Goals as goal

pub next_of-next-requires-clause-few : goal.next_of-next-requires-clause-few
next_of-next-requires-clause-few c =
    let e = ap length c.as_slice.ensures.value in
    omega (arith, c.loop-lane.invariant.long, c.size-lane-end.ensures.value, c.loop-lane-test.true)

pub loop-lane-init : goal.loop-lane-init
loop-lane-init c = record {
  long = ap length c.new-lanes.ensures.items;
  each = subst (EachNext c.args.order.now.pairs c.args.order.now.size) (sym c.new-lanes.ensures.items) (each_next-none c.args.order.now.pairs c.args.order.now.size);
}

pub loop-lane-preserved : goal.loop-lane-preserved
loop-lane-preserved c =
    let ps = c.args.order.now.pairs in
    let n = c.args.order.now.size in
    let lanes = c.loop-lane.lanes.items in
    let a = c.next_of-next.result in
    let next : IsNext ps n lanes a = subst (λ gone. IsNext ps n gone a) c.as_slice.ensures.value c.next_of-next.ensures in
    let items = c.in_ok-push.ensures.items in
    record {
      long = ap length items ∙ (length-append lanes (a ∷ []) ∙ ap (λ k. k + 1) c.loop-lane.invariant.long);
      each = subst (EachNext ps n) (sym items) (each_next-push ps n lanes c.loop-lane.invariant.each a next);
    }

pub returns : goal.returns
returns c = record {
  long = omega (arith, c.loop-lane.invariant.long, c.size-lane-end.ensures.value, c.loop-lane-test.false, c.loop-lane.auto._lane-end);
  each = c.loop-lane.invariant.each;
}
