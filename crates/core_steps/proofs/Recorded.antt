-- The records of slots: they are those of the threads that the slots stand for, in the order of paths, and those of the serial meaning.
use Rattle.std.proofs.Common.{◌≡◌, ℕ, ◌≤◌, List, [], ◌∷◌, ◌++◌, Option, Some, None, refl, sym, ◌∙◌, ap, ap₂, subst, arith}
use Rattle.std.specs.Prelude.{IfSome}
use Rattle.std.specs.Option.{option_map}
use Rattle.std.specs.List.{AllByRecursion}
use Rattle.std.proofs.lemmas.Option.{none-some}
use Rattle.priml_syntax.specs.Paths.{Precedes}
use Rattle.priml_syntax.specs.Tree.{Tree}
use Rattle.priml_syntax.specs.Values.{Outcome', Entry}
use Rattle.priml_syntax.specs.Records.{Each, InPathOrder, work}
use Rattle.core_steps.specs.Locals.{ended_with}
use Rattle.core_steps.specs.Determined.{steps_of}
use Rattle.core_steps.specs.Meaning.{meaning, Finished}
use Rattle.core_steps.specs.Steps.{Job, outcome_in}
use Rattle.core_steps.specs.Config.{Thread, IsFinished, entry_then, entry_of, records_of}
use Rattle.core_steps.specs.Configs.{SlotFields, entry_from, entry_with, records_from, SlotsRise, AreSlots, AreRecords}
use Rattle.core_steps.proofs.Interleavings.{finished_agrees}
use Rattle.core_steps.proofs.Slots.{Stands, AllStand, all_stand, path_stands, ended_stands, prio_stands}

-- the records, where there are any, behind these
abbrev pub behind : List Entry → Option (List Entry) → Option (List Entry)
behind es o = option_map (λ fs. es ++ fs) o

-- they are those of the threads
entry_stands : (p : Tree) (s : SlotFields) (t : Thread) (o : Outcome') → Stands p s t → entry_from s o ≡ entry_of t o
entry_stands p s t o h =
    ap₂ (λ q (x : ℕ × List _). record { path = q; prio = x.0; events = x.1; outcome = o }) (path_stands p s t h) (ap₂ (λ n es. (n, es)) (prio_stands p s t h) h.events)

pub records_stand : (p : Tree) (ss : List SlotFields) (ts : List Thread) → AllStand p ss ts → records_from ss ≡ records_of ts
records_stand p [] [] h = refl
records_stand p [] (t ∷ ts) h = absurd h
records_stand p (s ∷ ss) [] h = absurd h
records_stand p (s ∷ ss) (t ∷ ts) h = ap₂ (entry_with s) (ended_stands p s t h.0) (records_stand p ss ts h.1) ∙ go (outcome_in t.state.phase) (records_of ts)
  where
    go : (o : Option Outcome') (r : Option (List Entry)) → entry_with s o r ≡ entry_then o t r
    go None r = refl
    go (Some o) None = refl
    go (Some o) (Some es) = ap (λ x. Some (x ∷ es)) (entry_stands p s t o h.0)

-- in the order of paths
each_record : (q : List ℕ) (ss : List SlotFields) → AllByRecursion (λ s. Precedes q s.local.path) ss → IfSome (records_from ss) (Each (λ x. Precedes q x.path))
each_record q [] a = tt
each_record q (s ∷ ss) a = go (ended_with s.local.mode) (records_from ss) (each_record q ss a.1)
  where
    go : (o : Option Outcome') (r : Option (List Entry)) → IfSome r (Each (λ x. Precedes q x.path)) → IfSome (entry_with s o r) (Each (λ x. Precedes q x.path))
    go None r h = tt
    go (Some o) None h = tt
    go (Some o) (Some es) h = (a.0, h)

records_rise : (ss : List SlotFields) → SlotsRise ss → IfSome (records_from ss) InPathOrder
records_rise [] h = tt
records_rise (s ∷ ss) h = go (ended_with s.local.mode) (records_from ss) (each_record s.local.path ss h.0) (records_rise ss h.1)
  where
    go : (o : Option Outcome') (r : Option (List Entry)) → IfSome r (Each (λ x. Precedes s.local.path x.path)) → IfSome r InPathOrder → IfSome (entry_with s o r) InPathOrder
    go None r k i = tt
    go (Some o) None k i = tt
    go (Some o) (Some es) k i = (k, i)

pub records_in_order : (ss : List SlotFields) (rs : List Entry) → SlotsRise ss → Some rs ≡ records_from ss → InPathOrder rs
records_in_order ss rs c e = subst (λ o. IfSome o InPathOrder) (sym e) (records_rise ss c)

-- and there are none exactly where some thread has not ended
finished_some : (ts : List Thread) → IsFinished ts → records_of ts ≡ None → ⊥
finished_some [] f e = absurd (none-some [] (sym e))
finished_some (t ∷ ts) f e = go f.0.0 (records_of ts) (finished_some ts f.1) (sym (ap (λ o. entry_then o t (records_of ts)) f.0.1) ∙ e)
  where
    go : (o : Outcome') (r : Option (List Entry)) → (r ≡ None → ⊥) → entry_then (Some o) t r ≡ None → ⊥
    go o None k h = k refl
    go o (Some es) k h = none-some (entry_of t o ∷ es) (sym h)

some_finished : (ts : List Thread) (rs : List Entry) → records_of ts ≡ Some rs → IsFinished ts
some_finished [] rs e = tt
some_finished (t ∷ ts) rs e = go (outcome_in t.state.phase) (records_of ts) (some_finished ts) e
  where
    go : (o : Option Outcome') (r : Option (List Entry)) → ((es : List Entry) → r ≡ Some es → IsFinished ts) → entry_then o t r ≡ Some rs → ((x : Outcome') × (o ≡ Some x)) × IsFinished ts
    go None r k h = absurd (none-some rs h)
    go (Some o) None k h = absurd (none-some rs h)
    go (Some o) (Some es) k h = ((o, refl), k es refl)

-- where each has ended they are the records of the configuration
pub told_records : (job : Job) (ss : List SlotFields) (c : AreSlots job ss) (rs : List Entry) → Some rs ≡ records_from ss → records_of c.threads ≡ Some rs
told_records job ss c rs e = sym (records_stand job.program ss c.threads (all_stand job.program ss c.threads c.reads)) ∙ sym e

pub are_records : (job : Job) (ss : List SlotFields) (c : AreSlots job ss) (o : Option (List Entry)) → o ≡ records_from ss → AreRecords job c.threads o
are_records job ss c None e = λ f. finished_some c.threads f (sym (records_stand job.program ss c.threads (all_stand job.program ss c.threads c.reads)) ∙ sym e)
are_records job ss c (Some rs) e =
    let is : records_of c.threads ≡ Some rs = told_records job ss c rs e in
    (some_finished c.threads rs is, is, λ n l. agree is n l)
  where
    agree : records_of c.threads ≡ Some rs → (n : ℕ) → work rs ≤ n → meaning job n ≡ Finished rs
    agree is n l =
        let steps = (finished_agrees job c.threads rs (steps_of c.threads) c.reached is (omega arith)).1 in
        (finished_agrees job c.threads rs n c.reached is (omega (arith, steps, l))).0
