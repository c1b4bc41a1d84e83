use Rattle.std.proofs.Common.{◌≡◌, length}
use Rattle.priority_deques.specs.Inside.Opening.{Ready}
use Rattle.priority_deques.proofs.steal.StealLanes.open.Given as goal

abbrev pub invariant-loop-made : goal.invariant-loop-made
invariant-loop-made l = record { long : length l.ends.items ≡ l._made; ready : Ready l.fn.job l.fn.workers 0 0 l.ends.items }

abbrev pub invariant-loop-worker : goal.invariant-loop-worker
invariant-loop-worker l = record { long : length l.ends.items ≡ l.fn.workers; ready : Ready l.fn.job l.fn.workers l.worker 0 l.ends.items }
