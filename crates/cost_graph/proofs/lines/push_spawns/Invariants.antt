use Rattle.std.proofs.Common.{◌≡◌, ◌++◌}
use Rattle.std.specs.String.{string_bytes}
use Rattle.std.specs.List.{flat_map, range_with_len}
use Rattle.cost_graph.specs.Text.{spawn_lines}
use Rattle.cost_graph.proofs.lines.push_spawns.Given as goal

abbrev pub invariant-loop-thread : goal.invariant-loop-thread
invariant-loop-thread l = string_bytes l.text ≡ string_bytes l.fn.text ++ flat_map (spawn_lines l.graph) (range_with_len 0 l.thread)
