use Rattle.std.proofs.Common.{◌≡◌, length, arith, subst, ap}
use Rattle.cost_graph.specs.Graph.{vertex_total}
use Rattle.prompt_planner.proofs.OwnLanes.{AreFirstLanes, one_more, own_lanes, lanes_fit, one_lanes}
use Rattle.prompt_planner.proofs.lanes.lanes_of.Goals as goal

pub loop-vertex-init : goal.loop-vertex-init
loop-vertex-init c = record { covers = ap length c.new-lanes.ensures.items; each = λ v lt. absurd (omega (arith, lt)) }

pub loop-vertex-preserved : goal.loop-vertex-preserved
loop-vertex-preserved c =
    let o = c.args.order.now in
    one_more c.args.graph.now o.pairs (length o.names) c.loop-vertex.lanes.items c.loop-vertex.vertex c.lane_of.result c.push.new.self.items c.loop-vertex.invariant
    (record { is = c.lane_of.ensures.is; only = c.lane_of.ensures.only; above = c.lane_of.ensures.above }) c.in_ok-push.ensures.items

pub returns : goal.returns
returns c =
    let o = c.args.order.now in
    let end : c.loop-vertex.vertex ≡ vertex_total c.args.graph.now = omega (arith, c.loop-vertex-test.false, c.vertex_count-vertex-end.ensures.count) in
    let all = subst (λ n. AreFirstLanes c.args.graph.now o.pairs (length o.names) c.loop-vertex.lanes.items n) end c.loop-vertex.invariant in
    record {
      are = own_lanes c.args.graph.now o.pairs (length o.names) c.loop-vertex.lanes.items all;
      only = one_lanes c.args.graph.now o.pairs (length o.names) c.loop-vertex.lanes.items all;
      fit = lanes_fit c.args.graph.now o.pairs (length o.names) c.loop-vertex.lanes.items all;
    }
