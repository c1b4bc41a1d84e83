use Rattle.cost_graph.specs.Marks.{IsReady}
use Rattle.cost_graph.proofs.Frontiers.{AreFound}
use Rattle.cost_graph.proofs.frontier.Frontier.ready.Given as goal

abbrev pub invariant-loop-vertex : goal.invariant-loop-vertex
invariant-loop-vertex l = AreFound (IsReady l.self.graph l.self.ran) l.vertex l.found.items
