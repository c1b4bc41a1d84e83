use Rattle.std.proofs.Common.{◌≡◌, ℕ, ◌<◌, length, get_or, []}
use Rattle.cost_graph.specs.Graph.{parents_at}
use Rattle.cost_graph.specs.View.{lists}
use Rattle.span_bound.specs.Inside.Segments.{images}
use Rattle.span_bound.proofs.segments.parents_in.Given as goal

abbrev pub invariant-loop-head : goal.invariant-loop-head
invariant-loop-head l = record {
  long : length l.all.items ≡ l.head-index;
  are : (s : ℕ) → s < l.head-index → get_or (lists l.all.items) s [] ≡ images l.slots (parents_at l.graph (get_or l.heads s 0));
}
