use Rattle.std.proofs.Common.{◌∙◌, sym}
use Rattle.cost_graph.proofs.Threads.{owner_priority}
use Rattle.cost_graph.proofs.graph.Graph.priority_of_vertex.Goals as goal

pub returns-clause-is : goal.returns-clause-is
returns-clause-is c = c.priority_of.ensures ∙ sym (owner_priority c.args.self.now c.args.v c.thread_of.result c.thread_of.ensures)
