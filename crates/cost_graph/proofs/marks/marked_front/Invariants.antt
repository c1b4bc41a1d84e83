use Rattle.std.proofs.Common.{◌≡◌, ℕ, ◌-◌, ◌<◌, ◌≤◌, length, get_or, true}
use Rattle.cost_graph.specs.Marks.{is_marked}
use Rattle.cost_graph.proofs.marks.marked_front.Given as goal

abbrev pub invariant-loop-at : goal.invariant-loop-at
invariant-loop-at l =
    record {
      in_range : l.at ≤ length l.numbers;
      known : (k : ℕ) → k < l.at → is_marked l.marks (get_or l.numbers k 0) ≡ true;
    }

abbrev pub decreases-loop-at : goal.decreases-loop-at
decreases-loop-at l = length l.numbers - l.at
