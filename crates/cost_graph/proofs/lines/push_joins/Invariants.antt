use Rattle.std.proofs.Common.{◌≡◌, ◌++◌}
use Rattle.std.specs.String.{string_bytes}
use Rattle.std.specs.List.{flat_map, range_with_len}
use Rattle.cost_graph.specs.Text.{join_lines}
use Rattle.cost_graph.proofs.lines.push_joins.Given as goal

abbrev pub invariant-loop-vertex : goal.invariant-loop-vertex
invariant-loop-vertex l = string_bytes l.text ≡ string_bytes l.fn.text ++ flat_map (join_lines l.graph) (range_with_len 0 l.vertex)
