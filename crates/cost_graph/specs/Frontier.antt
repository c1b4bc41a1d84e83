-- How far the running of a graph has come.
use Rattle.std.specs.Prelude.{ℕ, List, Bool}
use Rattle.cost_graph.specs.Graph.{CostGraph}
use Rattle.cost_graph.specs.Marks.{IsSeen, IsDone}

-- the graph, and the vertices that have run, one after the other
pub record Progress : Type 0 where
  pub graph : CostGraph
  pub ran : List ℕ

-- the marks are those of the vertices that have run
pub record IsWatched (g : CostGraph) (marks : List Bool) (seen ran : List ℕ) : Type 0 where
  pub watched : IsSeen g marks seen
  pub done : IsDone g marks ran
