use Rattle.std.proofs.Common.{ℕ, ◌<◌}
use Rattle.priority_order.specs.Order.{IsBelow, Remains}
use Rattle.priority_order.proofs.lanes.is_top.Given as goal

abbrev pub invariant-loop-b : goal.invariant-loop-b
invariant-loop-b l = (b : ℕ) → b < l.b → Remains l.order.size l.gone b → IsBelow l.order.pairs l.a b → ⊥
