-- What the program that is made of a number does when it is run.
use Rattle.std.specs.Prelude.{◌≡◌, ℕ, ◌+◌, ◌*◌, ◌≤◌, ◌<◌, pos, List, [], ◌∷◌, length, map, replicate}
use Rattle.priml_syntax.specs.declared.event.Event.{Event}
use Rattle.priml_syntax.specs.declared.event.Event.TheVariants.{Wrote}
use Rattle.priml_syntax.specs.Values.{int_value, returned, Entry}
use Rattle.priml_syntax.specs.Records.{work}
use Rattle.core_steps.specs.Meaning.{meaning, Over, Finished}
use Rattle.source_maker.specs.Tree.{made_job}

-- how many numbers an event writes
abbrev pub one_output : Event → ℕ
one_output (Wrote z) = 1
one_output e = 0

-- how many numbers these events write
abbrev pub written : List Event → ℕ
written [] = 0
written (e ∷ es) = one_output e + written es

-- how many numbers all these threads write
abbrev pub outputs : List Entry → ℕ
outputs [] = 0
outputs (r ∷ rs) = written r.events + outputs rs

-- how many steps each of these threads made
abbrev pub lengths : List Entry → List ℕ
lengths rs = map (λ (r : Entry). length r.events) rs

-- Without inputs the program makes 10n + 9 steps in n + 2 threads: 4 of them are the root's, 5n + 5 the chain's, and 5 each leaf's. The threads write
-- n + 1 numbers, and the root gives n.
pub record Runs (n : ℕ) : Type 0 where
  pub records : List Entry
  pub finished : (fuel : ℕ) → 10 * n + 9 ≤ fuel → meaning (made_job n) fuel ≡ Finished records
  pub over : (fuel : ℕ) → fuel < 10 * n + 9 → meaning (made_job n) fuel ≡ Over
  pub steps : work records ≡ 10 * n + 9
  pub threads : length records ≡ n + 2
  pub each : lengths records ≡ 4 ∷ (5 * n + 5) ∷ replicate n 5
  pub writes : outputs records ≡ n + 1
  pub root : Entry
  pub others : List Entry
  pub first : records ≡ root ∷ others
  pub is_root : root.path ≡ 0 ∷ []
  pub gives : root.outcome ≡ returned (int_value (pos n))
