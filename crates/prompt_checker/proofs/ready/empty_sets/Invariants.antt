use Rattle.std.proofs.Common.{◌≡◌, ℕ, length, false}
use Rattle.prompt_checker.specs.Inside.Watch.{holds}
use Rattle.prompt_checker.proofs.ready.empty_sets.Given as goal

abbrev pub invariant-loop : goal.invariant-loop
invariant-loop l = record {
  long : length l.sets.items ≡ l.counter;
  empty : (p v : ℕ) → holds l.sets.items p v ≡ false;
}
