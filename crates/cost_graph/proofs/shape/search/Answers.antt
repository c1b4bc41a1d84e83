use Rattle.std.proofs.Common.{◌≤◌, arith}
use Rattle.cost_graph.specs.Graph.{vertex_total}
use Rattle.cost_graph.proofs.Unfit.{all_fit}
use Rattle.cost_graph.proofs.shape.search.Goals as goal

pub returns : goal.returns
returns c =
    let g = c.args.graph.now in
    let le : vertex_total g ≤ c.loop-vertex.vertex = omega (arith, c.loop-vertex-test.false, c.vertex_count-vertex-end.ensures.count) in
    all_fit g c.args.order.now.pairs c.args.thread c.loop-vertex.vertex c.vertex_count-vertex-end.ensures.kept c.requires.thread le c.loop-vertex.invariant
