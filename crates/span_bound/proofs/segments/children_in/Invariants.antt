use Rattle.std.proofs.Common.{◌≡◌, ℕ, ◌<◌, length, get_or, []}
use Rattle.cost_graph.specs.Graph.{children_at}
use Rattle.cost_graph.specs.View.{lists}
use Rattle.span_bound.specs.Inside.Segments.{images, last_of}
use Rattle.span_bound.proofs.segments.children_in.Given as goal

abbrev pub invariant-loop-s : goal.invariant-loop-s
invariant-loop-s l = record {
  long : length l.all.items ≡ l.s;
  are : (s : ℕ) → s < l.s → get_or (lists l.all.items) s [] ≡ images l.slots (children_at l.graph (last_of l.heads l.lens s));
}
