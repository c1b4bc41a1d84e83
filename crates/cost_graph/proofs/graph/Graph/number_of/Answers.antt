use Rattle.std.proofs.Common.{arith, ap}
use Rattle.cost_graph.specs.Graph.{first_vertex}
use Rattle.cost_graph.proofs.Threads.{one_owner}
use Rattle.cost_graph.proofs.graph.Graph.number_of.Goals as goal

pub returns : goal.returns
returns c = λ t own.
    let same = one_owner c.args.self.now c.args.v c.thread_of.result t c.thread_of.ensures own in
    let first = ap (first_vertex c.args.self.now) same in
    omega (arith, c.first_of.ensures, first, own.low)
