-- What holds of the graphs of all records.
use Rattle.std.specs.Prelude.{List}
use Rattle.priml_syntax.specs.Values.{Entry}
use Rattle.priml_syntax.specs.Records.{InPathOrder}
use Rattle.cost_graph.specs.Graph.{CostGraph}
use Rattle.cost_graph.specs.Records.{parts_of, AreFinished, IsGraphOf}

-- the records of a finished job, in the order of their paths, have a graph
abbrev pub SomeGraph : Type 0
SomeGraph = (rs : List Entry) → InPathOrder rs → AreFinished (parts_of rs) → (g : CostGraph) × IsGraphOf (parts_of rs) g
