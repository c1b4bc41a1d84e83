use Rattle.std.proofs.Common.{◌≡◌, length, vec_len}
use Rattle.std.specs.List.{All}
use Rattle.worked_runs.proofs.count.counted.Given as goal

abbrev pub invariant-loop-end : goal.invariant-loop-end
invariant-loop-end g l = (vec_len l.all ≡ length l.yielded) × All (λ e. g.L.Lanes.job e.end ≡ l.fn._job) l.all.items
