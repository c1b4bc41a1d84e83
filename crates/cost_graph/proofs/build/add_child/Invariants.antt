use Rattle.std.proofs.Common.{◌≡◌, ℕ, ◌++◌, ◌∷◌, [], length, get_or, take, cond}
use Rattle.std.specs.Prelude.{nat_eq}
use Rattle.std.specs.List.{list_any}
use Rattle.cost_graph.specs.View.{short_lists}
use Rattle.cost_graph.proofs.build.add_child.Given as goal

abbrev pub invariant-loop-parent : goal.invariant-loop-parent
invariant-loop-parent l =
    record {
      long : length l.children.items ≡ length l.fn.children.items;
      added : (u : ℕ) → get_or (short_lists l.children.items) u [] ≡ get_or (short_lists l.fn.children.items) u [] ++ cond (list_any (nat_eq u) (take l.parent-index l.parents.items)) (l.v ∷ []) [];
    }
