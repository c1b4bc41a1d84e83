use Rattle.std.proofs.Common.{◌≡◌, ◌++◌, drop}
use Rattle.std.specs.Prelude.{codes}
use Rattle.std.specs.String.{string_bytes}
use Rattle.std.specs.List.{flat_map}
use Rattle.cost_graph.specs.Text.{edge_line}
use Rattle.cost_graph.proofs.lines.push_spawn.Given as goal

abbrev pub invariant-loop-parent : goal.invariant-loop-parent
invariant-loop-parent l =
    string_bytes l.text ++ flat_map (edge_line l.graph (codes "spawn") l.first) (drop l.parent-index l.parents) ≡ string_bytes l.fn.text ++ flat_map (edge_line l.graph (codes "spawn") l.first) l.parents
