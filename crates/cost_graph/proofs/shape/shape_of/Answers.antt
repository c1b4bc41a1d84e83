use Rattle.std.proofs.Common.{below_more}
use Rattle.cost_graph.specs.Graph.{IsThreadWellFormed}
use Rattle.cost_graph.proofs.Above.{sorted_where_acyclic}
use Rattle.cost_graph.proofs.shape.shape_of.Goals as goal

pub first_unfit-requires-clause-along : goal.first_unfit-requires-clause-along
first_unfit-requires-clause-along c = sorted_where_acyclic c.args.graph.now c.in_ok-along.along.items c.requires.acyclic c.in_ok-along.ensures.whole

pub loop-thread-preserved : goal.loop-thread-preserved
loop-thread-preserved c = below_more (IsThreadWellFormed c.args.graph.now c.args.order.now.pairs) c.loop-thread.thread c.loop-thread.invariant (rw c.in_default.is at c.in_ok-vertex.ensures)
