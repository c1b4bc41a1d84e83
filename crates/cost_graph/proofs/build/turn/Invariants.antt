use Rattle.std.proofs.Common.{◌≡◌, ℕ, length, get_or, []}
use Rattle.std.specs.List.{filter, range_with_len}
use Rattle.cost_graph.specs.Graph.{is_edge}
use Rattle.cost_graph.specs.View.{lists, short_lists}
use Rattle.cost_graph.proofs.build.turn.Given as goal

abbrev pub invariant-loop-v : goal.invariant-loop-v
invariant-loop-v l =
    record {
      long : length l.children.items ≡ length l.parents.items;
      are : (u : ℕ) → get_or (short_lists l.children.items) u [] ≡ filter (is_edge (record { threads = []; parents = lists l.parents.items }) u) (range_with_len 0 l.v);
    }
