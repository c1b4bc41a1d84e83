use Rattle.std.proofs.Common.{ℕ, ◌<◌}
use Rattle.priority_order.specs.Order.{Remains, IsTop}
use Rattle.priority_order.proofs.lanes.next_of.Given as goal

abbrev pub invariant-loop-a : goal.invariant-loop-a
invariant-loop-a l = (a : ℕ) → a < l.a → Remains l.order.size l.gone a → IsTop l.order.pairs l.order.size l.gone a → ⊥
