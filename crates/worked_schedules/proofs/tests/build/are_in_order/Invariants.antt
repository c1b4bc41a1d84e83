use Rattle.std.proofs.Common.{◌≤◌}
use Rattle.worked_schedules.proofs.Worked.{RiseTo}
use Rattle.worked_schedules.proofs.tests.build.are_in_order.Given as goal

abbrev pub invariant-loop-next : goal.invariant-loop-next
invariant-loop-next l = record { some : 1 ≤ l.next; rise : RiseTo l.list l.next }
