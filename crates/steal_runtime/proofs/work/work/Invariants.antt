use Rattle.std.proofs.Common.{◌≡◌}
use Rattle.steal_runtime.specs.Inside.Seats.{Sits}
use Rattle.steal_runtime.proofs.work.work.Given as goal

abbrev pub invariant-loop : goal.invariant-loop
invariant-loop g l = Sits l.fn.board l.seat × (g.L.Lanes.job l.end ≡ l.fn.job)
