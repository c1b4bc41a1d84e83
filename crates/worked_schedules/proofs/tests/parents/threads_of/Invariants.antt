use Rattle.std.proofs.Common.{◌≡◌, ◌∷◌, map}
use Rattle.std.specs.List.{range_with_len}
use Rattle.worked_schedules.proofs.Gathered.{root, child}
use Rattle.worked_schedules.proofs.tests.parents.threads_of.Given as goal

abbrev pub invariant-loop-k : goal.invariant-loop-k
invariant-loop-k l = l.threads.items ≡ root ∷ map child (range_with_len 0 l.k)
