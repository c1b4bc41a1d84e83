use Rattle.std.proofs.Common.{◌≡◌}
use Rattle.steal_runtime.proofs.put.put_all.Given as goal

abbrev pub invariant-loop-task : goal.invariant-loop-task
invariant-loop-task g l = g.L.Lanes.job l.end ≡ g.L.Lanes.job l.fn.end
