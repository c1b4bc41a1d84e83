use Rattle.std.proofs.Common.{◌≡◌, ◌++◌, take}
use Rattle.std.specs.String.{string_bytes}
use Rattle.std.specs.List.{flat_map}
use Rattle.cost_graph.specs.Text.{thread_line}
use Rattle.cost_graph.proofs.lines.push_threads.Given as goal

abbrev pub invariant-loop-thread : goal.invariant-loop-thread
invariant-loop-thread l = string_bytes l.text ≡ string_bytes l.fn.text ++ flat_map (thread_line l.order.names) (take l.thread l.graph.threads)
