use Rattle.cost_graph.proofs.SomeGraph.{some_graph}
use Rattle.cost_graph.proofs.laws.some_graph.Goals as goal

pub returns : goal.returns
returns c = some_graph
