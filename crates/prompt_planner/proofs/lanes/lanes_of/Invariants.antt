use Rattle.std.proofs.Common.{length}
use Rattle.prompt_planner.proofs.OwnLanes.{AreFirstLanes}
use Rattle.prompt_planner.proofs.lanes.lanes_of.Given as goal

abbrev pub invariant-loop-vertex : goal.invariant-loop-vertex
invariant-loop-vertex l = AreFirstLanes l.graph l.order.pairs (length l.order.names) l.lanes.items l.vertex
