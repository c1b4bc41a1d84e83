use Rattle.std.proofs.Common.{◌≡◌}
use Rattle.priority_deques.specs.EndBooks.{steal_job}
use Rattle.worked_lanes.proofs.cases.gives_at_once.Given as goal

abbrev pub invariant-loop-task : goal.invariant-loop-task
invariant-loop-task l = steal_job l.end ≡ steal_job l.fn.end
