use Rattle.std.proofs.Common.{◌≡◌, length}
use Rattle.priority_order.proofs.Placed.{EachNext}
use Rattle.priority_order.proofs.lanes.lanes_of.Given as goal

abbrev pub invariant-loop-lane : goal.invariant-loop-lane
invariant-loop-lane l = record { long : length l.lanes.items ≡ l._lane; each : EachNext l.order.pairs l.order.size l.lanes.items }
