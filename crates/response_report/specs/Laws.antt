-- What holds of the rows of every graph and prompt schedule.
use Rattle.std.specs.Prelude.{◌≡◌, ℕ, List}
use Rattle.priority_order.specs.Order.{IsLawful}
use Rattle.cost_graph.specs.Graph.{CostGraph, IsGraph, IsWellFormed, IsVertexBelow}
use Rattle.prompt_checker.specs.Schedule.{IsPrompt}
use Rattle.response_report.specs.declared.row.Row.{Row}
use Rattle.response_report.specs.Response.{AreRows}

-- a graph has at most one list of rows under a prompt schedule
abbrev pub RowsAreOne : Type 0
RowsAreOne =
    (g : CostGraph) (pairs : List (ℕ × ℕ)) (cores : ℕ) (steps : List (List ℕ)) → IsPrompt g (IsVertexBelow g pairs) cores steps →
    (a b : List Row) → AreRows g pairs cores steps a → AreRows g pairs cores steps b → a ≡ b

-- and one if it is well formed over a lawful order
abbrev pub SomeRows : Type 0
SomeRows =
    (g : CostGraph) (pairs : List (ℕ × ℕ)) (cores : ℕ) (steps : List (List ℕ)) → IsGraph g → IsLawful pairs → IsWellFormed g pairs →
    IsPrompt g (IsVertexBelow g pairs) cores steps → (rows : List Row) × AreRows g pairs cores steps rows
