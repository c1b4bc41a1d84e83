use Rattle.std.proofs.Common.{◌≡◌, ℕ, ◌<◌, ◌^◌, get_or, length}
use Rattle.priority_order.proofs.closure.Closure.new.Given as goal

abbrev pub invariant-loop-x : goal.invariant-loop-x
invariant-loop-x l = record {
  long : length l.rows.items ≡ l.x;
  each : (k : ℕ) → k < l.x → get_or l.rows.items k 0 ≡ 2 ^ k;
}
