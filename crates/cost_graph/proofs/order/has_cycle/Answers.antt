use Rattle.std.proofs.Common.{◌≡◌, length, arith}
use Rattle.cost_graph.proofs.Ordered.{cycle_told}
use Rattle.cost_graph.proofs.order.has_cycle.Goals as goal

pub returns : goal.returns
returns c =
    let long : c.len.result ≡ length c.in_ok-order.order.items = omega (arith, c.len.ensures, c.in_ok-order.order.ok.0) in
    cycle_told c.args.graph.now c.in_ok-order.order.items c.len.result c.vertex_count-count.result c.in_ok-order.ensures.whole long c.vertex_count-count.ensures.count
