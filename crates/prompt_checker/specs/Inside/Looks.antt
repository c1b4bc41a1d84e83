-- What looking up the words of a line gives.
use Rattle.std.specs.Prelude.{ℕ, List, Option, Some, None}
use Rattle.cost_graph.specs.Graph.{CostGraph}
use Rattle.prompt_checker.specs.ScheduleText.{IsVertexWord, IsUnknownWord, IsLineFault}
use Rattle.prompt_checker.specs.declared.reader.ScheduleFault.{ScheduleFault}
use Rattle.prompt_checker.specs.declared.reader.ScheduleFault.TheVariants.{BadText, UnknownVertex, OutOfMemory}

-- a word is the name of a vertex of the graph, or of none
abbrev pub IsLook : CostGraph → List ℕ → Option ℕ → Type 0
IsLook g word None = IsUnknownWord g word
IsLook g word (Some v) = IsVertexWord g word v

-- why line k stops the reading
abbrev pub StopsAt : CostGraph → ℕ → List ℕ → ScheduleFault → Type 0
StopsAt g k line (BadText n) = IsLineFault g k line (BadText n)
StopsAt g k line (UnknownVertex n) = IsLineFault g k line (UnknownVertex n)
StopsAt g k line OutOfMemory = Unit {0}
