use Rattle.std.proofs.Common.{◌≡◌, ◌++◌, drop}
use Rattle.std.specs.String.{string_bytes}
use Rattle.std.specs.List.{flat_map}
use Rattle.response_report.specs.Text.{row_line, response_lines}
use Rattle.response_report.proofs.text.response_text.Given as goal

abbrev pub invariant-loop-row : goal.invariant-loop-row
invariant-loop-row l = string_bytes l.text ++ flat_map (row_line l.graph l.order.names) (drop l.row-index l.rows) ≡ response_lines l.graph l.order.names l.cores l.steps l.rows
