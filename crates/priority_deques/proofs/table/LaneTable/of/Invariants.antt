use Rattle.std.proofs.Common.{◌≡◌, ◌<◌, length}
use Rattle.priority_order.specs.Order.{HasLane}
use Rattle.priority_deques.proofs.Lists.{EachAt}
use Rattle.priority_deques.proofs.table.LaneTable.of.Given as goal

abbrev pub invariant-loop-priority : goal.invariant-loop-priority
invariant-loop-priority l = record { long : length l.lanes.items ≡ l.priority; each : EachAt (λ p k. HasLane l.order.pairs (length l.order.names) p k × (k < length l.order.names)) l.lanes.items }
