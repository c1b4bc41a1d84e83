use Rattle.std.proofs.Common.{◌≡◌}
use Rattle.priority_deques.specs.EndBooks.{steal_job}
use Rattle.worked_lanes.proofs.workers.work.Given as goal

abbrev pub invariant-loop : goal.invariant-loop
invariant-loop l = steal_job l.end ≡ l.job
