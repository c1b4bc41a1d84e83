use Rattle.std.proofs.Common.{◌≡◌, length}
use Rattle.priority_deques.specs.Inside.Opening.{Ready}
use Rattle.priority_deques.proofs.steal.join_end.Given as goal

abbrev pub invariant-loop-lane : goal.invariant-loop-lane
invariant-loop-lane l = record {
  count : length l.ends.items ≡ length l.initial.ends.items;
  ready : Ready l.fn.job (length l.initial.ends.items) l.fn.worker l.lane l.ends.items;
}
