use Rattle.std.proofs.Common.{◌≡◌, ◌+◌, length, map}
use Rattle.priority_deques.specs.Handles.{their_book}
use Rattle.priority_deques.specs.Inside.Opening.{AreFresh, Ready}
use Rattle.priority_deques.proofs.steal.visitors.Given as goal

abbrev pub invariant-loop-step : goal.invariant-loop-step
invariant-loop-step l = record {
  count : length l.ends.items ≡ length l.initial.ends.items;
  ready : Ready l.fn.job (length l.initial.ends.items) l.fn.worker l.fn.lane l.ends.items;
  long : length l.others.items + 1 ≡ l.step;
  fresh : AreFresh l.fn.job l.fn.lane (map their_book l.others.items);
}
