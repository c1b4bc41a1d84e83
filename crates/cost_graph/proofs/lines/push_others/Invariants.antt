use Rattle.std.proofs.Common.{◌≡◌, ◌++◌, take}
use Rattle.std.specs.Prelude.{codes}
use Rattle.std.specs.String.{string_bytes}
use Rattle.std.specs.List.{flat_map}
use Rattle.cost_graph.specs.Text.{edge_line, joins_to}
use Rattle.cost_graph.proofs.lines.push_others.Given as goal

abbrev pub invariant-loop-parent : goal.invariant-loop-parent
invariant-loop-parent l = string_bytes l.text ≡ string_bytes l.fn.text ++ flat_map (edge_line l.graph (codes "join") l.vertex) (joins_to l.vertex (take l.parent-index l.parents))
