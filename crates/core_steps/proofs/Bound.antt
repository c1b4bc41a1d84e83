-- No threads of a job have more events together than its complete records.
use Rattle.std.proofs.Common.{◌≡◌, ◌≢◌, ◌+◌, ◌≤◌, List, [], ◌∷◌, length, ◌⊎◌, inl, inr, sym, ◌∙◌, ap, subst, arith, length-append}
use Rattle.std.specs.List.{AllByRecursion}
use Rattle.priml_syntax.specs.Values.{Entry}
use Rattle.priml_syntax.specs.Records.{Each, In, work}
use Rattle.core_steps.specs.Steps.{Job, Ran}
use Rattle.core_steps.specs.Config.{Thread}
use Rattle.core_steps.specs.Determined.{steps_of}
use Rattle.core_steps.proofs.Extends.{Extends}
use Rattle.core_steps.proofs.Threads.{all_map}
use Rattle.core_steps.proofs.Complete.{IsRecord, Complete, record_extends, absorbed}

-- the job determines that the thread is in this state after these events
abbrev pub IsDetermined : Job → Thread → Type 0
IsDetermined job t = Ran job t.state.path t.events t.state

-- no path stands there twice
abbrev pub AreApart : List Thread → Type 0
AreApart [] = Unit {0}
AreApart (t ∷ ts) = AllByRecursion (λ u. u.state.path ≢ t.state.path) ts × AreApart ts

-- a record of the thread has at least as many events
abbrev Covers : Thread → List Entry → Type 0
Covers t [] = ⊥
Covers t (r ∷ rs) = ((r.path ≡ t.state.path) × (length t.events ≤ length r.events)) ⊎ Covers t rs

-- the records without one that covers the thread: they still cover each other thread that they covered
record Rest (t : Thread) (rs : List Entry) : Type 0 where
  records : List Entry
  fewer : length t.events + work records ≤ work rs
  covers : (u : Thread) → u.state.path ≢ t.state.path → Covers u rs → Covers u records

taken_out : (t : Thread) (rs : List Entry) → Covers t rs → Rest t rs
taken_out t [] h = absurd h
taken_out t (r ∷ rs) h = go (taken_out t rs) h
  where
    skip : (u : Thread) → r.path ≡ t.state.path → u.state.path ≢ t.state.path → Covers u (r ∷ rs) → Covers u rs
    skip u e n c = elim c [ inl a ↦ absurd (n (sym a.0 ∙ e)) | inr b ↦ b ]

    go : (Covers t rs → Rest t rs) → Covers t (r ∷ rs) → Rest t (r ∷ rs)
    go f (inl a) = record { records = rs; fewer = omega (arith, a.1); covers = λ u n c. skip u a.0 n c }
    go f (inr b) =
        let g : Rest t rs = f b in
        record { records = r ∷ g.records; fewer = omega (arith, g.fewer); covers = λ u n c. elim c [ inl a ↦ inl a | inr z ↦ inr (g.covers u n z) ] }

-- the other threads are still covered without the records of one
still_covered : (t : Thread) (ts : List Thread) (rs : List Entry) (g : Rest t rs) → AllByRecursion (λ u. Covers u rs) ts → AllByRecursion (λ u. u.state.path ≢ t.state.path) ts → AllByRecursion (λ u. Covers u g.records) ts
still_covered t [] rs g a n = tt
still_covered t (u ∷ ts) rs g a n = (g.covers u n.0 a.0, still_covered t ts rs g a.1 n.1)

-- different threads that are covered have at most as many events as the records
covered_total : (ts : List Thread) (rs : List Entry) → AllByRecursion (λ t. Covers t rs) ts → AreApart ts → steps_of ts ≤ work rs
covered_total [] rs a d = omega arith
covered_total (t ∷ ts) rs a d =
    let g : Rest t rs = taken_out t rs a.0 in
    omega (arith, g.fewer, covered_total ts g.records (still_covered t ts rs g a.1 d.0) d.1)

covered : (job : Job) (t : Thread) (rs : List Entry) → Each (IsRecord job) rs → IsDetermined job t → In t.state.path rs → Covers t rs
covered job t [] a d h = absurd h
covered job t (r ∷ rs) a d h =
    elim h [
      | inl e ↦
          let b : Extends job t.events t.state r.events a.0.state = record_extends r a.0 (subst (λ p. Ran job p t.events t.state) (sym e) d) in
          inl (e, omega (arith, ap length b.joins, length-append t.events b.rest))
      | inr i ↦ inr (covered job t rs a.1 d i)
    ]

-- the events of different threads of the job are together at most the work of its complete records
pub bounded : (job : Job) (rs : List Entry) (ts : List Thread) → Complete job rs → AllByRecursion (IsDetermined job) ts → AreApart ts → steps_of ts ≤ work rs
bounded job rs ts c a d = covered_total ts rs (all_map ts (λ t x. covered job t rs c.each x (absorbed rs c x)) a) d
