use Rattle.std.proofs.Common.{arith}
use Rattle.cost_graph.proofs.Threads.{threads_few}
use Rattle.cost_graph.proofs.graph.Graph.thread_count.Goals as goal

pub overflow_cast-result : goal.overflow_cast-result
overflow_cast-result c = omega (arith, c.len.ensures, threads_few _ c.self.invariant.graph, c.self.invariant.graph.small)
