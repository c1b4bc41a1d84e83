-- The work of the program at every fuel.
use Rattle.std.proofs.Common.{◌≡◌, ℕ, ◌+◌, ◌*◌, ◌≤◌, ◌<◌, refl, sym, ◌∙◌, ap, arith}
use Rattle.std.proofs.lemmas.Bool.{le-ltb}
use Rattle.std.specs.Prelude.{if◌then◌else◌}
use Rattle.priml_syntax.specs.Records.{work}
use Rattle.core_steps.specs.Meaning.{Meaning, Over, Finished, within, meaning}
use Rattle.core_steps.proofs.Agree.{agrees, same_finished, finished_is_complete}
use Rattle.source_maker.specs.Tree.{made_job}
use Rattle.source_maker.specs.Runs.{Runs}
use Rattle.source_maker.proofs.Records.{root_entry, chain_entry, records, all_done, steps, threads, each, writes_of}
use Rattle.source_maker.proofs.Leaf.{leaves}
use Rattle.std.proofs.Common.{◌∷◌}

module _ (n : ℕ) (small : n ≤ 5000) where
  at_work : meaning (made_job n) (10 * n + 9) ≡ Finished (records n)
  at_work = ap (within (10 * n + 9)) (all_done n small) ∙ ap (λ b. if b then Over else Finished (records n)) (le-ltb (10 * n + 9) (work (records n)) (omega (arith, steps n)))

  from_work : (fuel : ℕ) → 10 * n + 9 ≤ fuel → meaning (made_job n) fuel ≡ Finished (records n)
  from_work fuel l =
      let whole = finished_is_complete (made_job n) (records n) (10 * n + 9) at_work in
      agrees (made_job n) (records n) whole.0 whole.1 fuel (omega (arith, steps n))

  -- a finished meaning at less fuel would have the same records
  before_work : (fuel : ℕ) → fuel < 10 * n + 9 → meaning (made_job n) fuel ≡ Over
  before_work fuel l = go (meaning (made_job n) fuel) refl
    where
      go : (m : Meaning) → meaning (made_job n) fuel ≡ m → m ≡ Over
      go Over e = refl
      go (Finished rs) e =
          let whole = finished_is_complete (made_job n) rs fuel e in
          let same : rs ≡ records n = same_finished rs (records n) (sym (agrees (made_job n) rs whole.0 whole.1 (10 * n + 9) (omega (arith, whole.2))) ∙ at_work) in
          absurd (omega (arith, whole.2, ap work same, steps n))

  pub made_runs : Runs n
  made_runs = record {
    records = records n;
    finished = from_work;
    over = before_work;
    steps = steps n;
    threads = threads n;
    each = each n;
    writes = writes_of n;
    root = root_entry n;
    others = chain_entry n ∷ leaves 0 n;
    first = refl;
    is_root = refl;
    gives = refl;
  }
