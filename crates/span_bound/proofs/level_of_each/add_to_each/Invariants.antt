use Rattle.std.proofs.Common.{◌≡◌, ℕ, ◌+◌, ◌<◌, ◌≤◌, get_or}
use Rattle.span_bound.proofs.level_of_each.add_to_each.Given as goal

abbrev pub invariant-loop-i : goal.invariant-loop-i
invariant-loop-i l = record {
  done : (k : ℕ) → k < l.i → get_or l.best k 0 ≡ get_or l.initial.best k 0 + l.more;
  left : (k : ℕ) → l.i ≤ k → get_or l.best k 0 ≡ get_or l.initial.best k 0;
}
