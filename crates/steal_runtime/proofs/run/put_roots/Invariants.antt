use Rattle.std.proofs.Common.{◌≡◌, vec_len}
use Rattle.std.specs.List.{All}
use Rattle.steal_runtime.proofs.run.put_roots.Given as goal

abbrev pub invariant-loop-k : goal.invariant-loop-k
invariant-loop-k g l = (vec_len l.ends ≡ vec_len l.fn.ends) × All (λ e. g.L.Lanes.job e ≡ l.fn.job) l.ends.items
