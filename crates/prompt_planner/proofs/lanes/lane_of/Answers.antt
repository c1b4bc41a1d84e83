use Rattle.std.proofs.Common.{◌≡◌, ◌<◌, ℕ, length, subst}
use Rattle.priority_order.specs.Order.{HasLane, IsBelow}
use Rattle.prompt_planner.proofs.lanes.lane_of.Goals as goal

pub returns-clause-is : goal.returns-clause-is
returns-clause-is c = subst (λ a. HasLane c.args.order.now.pairs (length c.args.order.now.names) a c.lane.result) c.priority_of_vertex.ensures.is c.lane.ensures.is

pub returns-clause-only : goal.returns-clause-only
returns-clause-only c = subst (λ a. (k : ℕ) → HasLane c.args.order.now.pairs (length c.args.order.now.names) a k → k ≡ c.lane.result) c.priority_of_vertex.ensures.is c.lane.ensures.only

pub returns-clause-above : goal.returns-clause-above
returns-clause-above c =
    subst (λ a. (b k : ℕ) → HasLane c.args.order.now.pairs (length c.args.order.now.names) b k → IsBelow c.args.order.now.pairs a b → k < c.lane.result) c.priority_of_vertex.ensures.is c.lane.ensures.above
