-- The serial meaning of a job is its complete records in the order of paths, at every fuel from their work on.
use Rattle.std.proofs.Common.{◌≡◌, ℕ, ◌<◌, ◌≤◌, List, [], Option, Some, None, sym, ◌∙◌, ap, subst, arith, if◌then◌else◌, inl, inr}
use Rattle.std.specs.Option.{IfSome}
use Rattle.std.proofs.lemmas.Bool.{cases_lt, lt-ltb, le-ltb}
use Rattle.priml_syntax.specs.Values.{Entry}
use Rattle.priml_syntax.specs.Records.{InPathOrder, work}
use Rattle.core_steps.specs.Steps.{Job}
use Rattle.core_steps.specs.Meaning.{Over, Finished, within, meaning, roots_done}
use Rattle.core_steps.proofs.Complete.{Complete}
use Rattle.core_steps.proofs.Bound.{bounded}
use Rattle.core_steps.proofs.NoneStuck.{none_stuck}
use Rattle.core_steps.proofs.Evaluated.{IsWhole, evaluated}
use Rattle.core_steps.proofs.Sorted.{sorted}
use Rattle.core_steps.proofs.SameRecords.{same_records}

within_enough : (n : ℕ) (rs : List Entry) → work rs ≤ n → within n (Some rs) ≡ Finished rs
within_enough n rs l = ap (λ b. if b then Over else Finished rs) (le-ltb n (work rs) l)

within_less : (n : ℕ) (rs : List Entry) → n < work rs → within n (Some rs) ≡ Over
within_less n rs l = ap (λ b. if b then Over else Finished rs) (lt-ltb n (work rs) l)

over_finished : {X : Type 0} (rs : List Entry) → Over ≡ Finished rs → X
over_finished rs e = absurd (cc)

pub same_finished : (qs rs : List Entry) → Finished qs ≡ Finished rs → qs ≡ rs
same_finished qs rs e = cc

-- where a job has complete records in the order of paths, they are its meaning at each fuel from their work on
pub agrees : (job : Job) (rs : List Entry) → Complete job rs → InPathOrder rs → (n : ℕ) → work rs ≤ n → meaning job n ≡ Finished rs
agrees job rs c s n l = go (roots_done job n job.program.mains 0 []) (evaluated job n) (sorted job n)
  where
    go : (a : Option (List Entry)) → IsWhole job n a → IfSome a InPathOrder → within n a ≡ Finished rs
    go None x t = let y = (x (none_stuck job rs c)).1 in absurd (omega (arith, bounded job rs y.threads c y.determined y.apart, y.enough, l))
    go (Some qs) x t = let e : qs ≡ rs = same_records job qs rs x c t s in within_enough n qs (omega (arith, ap work e, l)) ∙ ap Finished e

-- a finished meaning is complete records in the order of paths, whose work is within the fuel
pub finished_is_complete : (job : Job) (rs : List Entry) (n : ℕ) → meaning job n ≡ Finished rs → Complete job rs × InPathOrder rs × (work rs ≤ n)
finished_is_complete job rs n e = go (roots_done job n job.program.mains 0 []) (evaluated job n) (sorted job n) e
  where
    go : (a : Option (List Entry)) → IsWhole job n a → IfSome a InPathOrder → within n a ≡ Finished rs → Complete job rs × InPathOrder rs × (work rs ≤ n)
    go None x t f = over_finished rs f
    go (Some qs) x t f = elim (cases_lt n (work qs)) [
      | inl l ↦ over_finished rs (sym (within_less n qs l) ∙ f)
      | inr l ↦ (let q : qs ≡ rs = same_finished qs rs (sym (within_enough n qs l) ∙ f) in (subst (Complete job) q x, subst InPathOrder q t, subst (λ z. work z ≤ n) q l))
    ]
