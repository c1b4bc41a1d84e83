use Rattle.std.proofs.Common.{arith, sym, subst}
use Rattle.priority_order.specs.Edges.{IsClosed}
use Rattle.priority_order.proofs.Rows.{closed_none}
use Rattle.priority_order.proofs.closure.Closure.new.Goals as goal

pub invariant_of-result : goal.invariant_of-result
invariant_of-result c =
    subst (λ ps. IsClosed ps c.loop-x.rows.items) (sym c.new.ensures.items)
    (closed_none c.loop-x.rows.items (omega (arith, c.loop-x.invariant.long)) (λ k h. c.loop-x.invariant.each k (omega (arith, c.loop-x.invariant.long))))
