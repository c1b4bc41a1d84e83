use Rattle.std.proofs.Common.{◌≡◌, ℕ, ◌<◌, ◌≤◌, get_or}
use Rattle.priority_order.specs.Edges.{joined}
use Rattle.priority_order.proofs.closure.join_rows.Given as goal

abbrev pub invariant-loop-row : goal.invariant-loop-row
invariant-loop-row l = record {
  done : (k : ℕ) → k < l.row-index → get_or l.row-items k 0 ≡ joined l.a l.more (get_or l.initial.row-items k 0);
  left : (k : ℕ) → l.row-index ≤ k → get_or l.row-items k 0 ≡ get_or l.initial.row-items k 0;
}
