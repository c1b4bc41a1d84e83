use Rattle.std.proofs.Common.{refl, arith, below_more}
use Rattle.std.proofs.lemmas.Bool.{false≢true}
use Rattle.priority_order.specs.Order.{IsBelow, Remains}
use Rattle.priority_order.proofs.Decided.{failed}
use Rattle.priority_order.proofs.lanes.is_top.Goals as goal

pub returns-then-remains_above : goal.returns-then-remains_above
returns-then-remains_above c =
    let h = c.remains_above.ensures.0 c.if-remains_above.true in
    (λ e. absurd (false≢true e), λ top. absurd (top c.loop-b.b h.0 h.1))

pub loop-b-preserved : goal.loop-b-preserved
loop-b-preserved c =
    below_more (λ b. Remains c.args.order.now.size c.args.gone.now b → IsBelow c.args.order.now.pairs c.args.a b → ⊥) c.loop-b.b c.loop-b.invariant
    (λ r h. failed c.remains_above.result c.if-remains_above.false c.remains_above.ensures.1 (r, h))

pub returns : goal.returns
returns c = (λ _ b r h. c.loop-b.invariant b (let l = r.0 in omega (arith, c.loop-b-test.false)) r h, λ _. refl)
