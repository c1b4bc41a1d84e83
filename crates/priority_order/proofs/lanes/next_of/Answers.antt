use Rattle.std.proofs.Common.{inl, inr, arith, below_more}
use Rattle.std.proofs.lemmas.Bool.{cases_lt}
use Rattle.priority_order.specs.Order.{Remains, IsTop}
use Rattle.priority_order.proofs.Decided.{failed}
use Rattle.priority_order.proofs.Placed.{some_top}
use Rattle.priority_order.proofs.lanes.next_of.Goals as goal

pub returns-then-is_free : goal.returns-then-is_free
returns-then-is_free c =
    let h = c.is_free.ensures.0 c.if-is_free.true in
    record {
      remains = h.0;
      top = h.1;
      smallest = λ x r t. elim (cases_lt x c.loop-a.a) [ inl l ↦ absurd (c.loop-a.invariant x l r t) | inr l ↦ l ];
    }

pub loop-a-preserved : goal.loop-a-preserved
loop-a-preserved c =
    below_more (λ a. Remains c.args.order.now.size c.args.gone.now a → IsTop c.args.order.now.pairs c.args.order.now.size c.args.gone.now a → ⊥) c.loop-a.a c.loop-a.invariant
    (λ r t. failed c.is_free.result c.if-is_free.false c.is_free.ensures.1 (r, t))

pub unreachable-requires : goal.unreachable-requires
unreachable-requires c =
    let t = some_top c.args.order.now.pairs c.args.order.now.size c.requires.lawful c.args.gone.now c.requires.few in
    c.loop-a.invariant t.top (let l = t.within in omega (arith, c.loop-a-test.false)) (t.within, t.is) (λ b r below. t.none b r.0 r.1 below)
