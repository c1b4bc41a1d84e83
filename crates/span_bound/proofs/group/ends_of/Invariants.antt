use Rattle.std.proofs.Common.{◌≡◌, map, take}
use Rattle.cost_graph.specs.Graph.{first_vertex, last_vertex}
use Rattle.span_bound.proofs.group.ends_of.Given as goal

abbrev pub invariant-loop-thread : goal.invariant-loop-thread
invariant-loop-thread l = record {
  firsts : l.firsts.items ≡ map (first_vertex l.graph) (take l.thread-index l.threads);
  lasts : l.lasts.items ≡ map (last_vertex l.graph) (take l.thread-index l.threads);
}
