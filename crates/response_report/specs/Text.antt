-- The text of response lines.
use Rattle.std.specs.Prelude.{ℕ, List, [], ◌∷◌, ◌++◌, codes, get_or}
use Rattle.std.specs.List.{flat_map}
use Rattle.std.specs.Fmt.{decimal}
use Rattle.cost_graph.specs.Graph.{CostGraph, thread_at}
use Rattle.priml_syntax.specs.Text.{path_text}
use Rattle.response_report.specs.declared.row.Row.{Row}

-- the line of a row, with the thread's path and its priority's name
abbrev pub row_line : CostGraph → List (List ℕ) → Row → List ℕ
row_line g names row =
    codes "response " ++ path_text (thread_at g row.thread).path ++ codes " " ++ get_or names (thread_at g row.thread).priority []
    ++ codes " time " ++ decimal row.response ++ codes " work " ++ decimal row.work
    ++ codes " span " ++ decimal row.span ++ codes " bound " ++ decimal row.bound ++ 10 ∷ []

-- the number of cores, that of steps, and then the rows
abbrev pub response_lines : CostGraph → List (List ℕ) → ℕ → ℕ → List Row → List ℕ
response_lines g names cores steps rows =
    (codes "cores " ++ decimal cores ++ 10 ∷ []) ++ (codes "steps " ++ decimal steps ++ 10 ∷ []) ++ flat_map (row_line g names) rows
