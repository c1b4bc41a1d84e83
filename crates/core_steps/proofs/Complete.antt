-- Complete records of a job: each thread that the job determines has its record among them.
use Rattle.std.proofs.Common.{◌≡◌, ℕ, ◌<◌, ◌≤◌, List, [], ◌∷◌, ◌++◌, Some, None, length, inl, inr, refl, sym, ◌∙◌, ap, subst, arith, Bool, true, false, if◌then◌else◌}
use Rattle.std.proofs.lemmas.Bool.{cases_lt}
use Rattle.std.proofs.lemmas.Option.{slice_get_within}
use Rattle.priml_syntax.specs.declared.event.Event.{Event}
use Rattle.priml_syntax.specs.Values.{Entry}
use Rattle.priml_syntax.specs.Paths.{child_path, same_path, path_lt}
use Rattle.priml_syntax.specs.Records.{Each, In}
use Rattle.priml_syntax.specs.Events.{one_spawn, spawns}
use Rattle.priml_syntax.proofs.Orders.{same_path_is, same_path_refl}
use Rattle.core_steps.specs.Steps.{Job, State, Ended, Moved, step, awaits, Ran, root, born, alone, joined}
use Rattle.core_steps.specs.Meaning.{placed, outcome_at}
use Rattle.core_steps.proofs.StepFacts.{child_facts}
use Rattle.core_steps.proofs.Named.{named, spawns_append, spawns_push}
use Rattle.core_steps.proofs.Extends.{Extends}
use Rattle.core_steps.proofs.OneState.{leads, ended_rest}

-- a record of the job: its events lead to an end with its outcome, at its priority
pub record IsRecord (job : Job) (r : Entry) : Type 0 where
  pub state : State
  pub ran : Ran job r.path r.events state
  pub ended : state.phase ≡ Ended r.outcome
  pub prio : state.prio ≡ r.prio

-- records of the job, with one of each root, and of each child that a thread among them spawned
pub record Complete (job : Job) (rs : List Entry) : Type 0 where
  pub each : Each (IsRecord job) rs
  pub roots : (k : ℕ) → k < length job.program.mains → In (k ∷ []) rs
  pub children : Each (λ r. (k : ℕ) → k < spawns r.events → In (child_path r.path k) rs) rs

pub each_map : {P Q : Entry → Type 0} (rs : List Entry) → ((r : Entry) → P r → Q r) → Each P rs → Each Q rs
each_map [] f a = tt
each_map (r ∷ rs) f a = (f r a.0, each_map rs f a.1)

each_both : (P Q : Entry → Type 0) (rs : List Entry) → Each P rs → Each Q rs → Each (λ r. P r × Q r) rs
each_both P Q [] a b = tt
each_both P Q (r ∷ rs) a b = ((a.0, b.0), each_both P Q rs a.1 b.1)

each_choice : (P : Entry → Type 0) (b : Bool) (r x : Entry) (xs ys : List Entry) → P r → P x → Each P xs → Each P ys → Each P (if b then r ∷ x ∷ xs else x ∷ ys)
each_choice P true r x xs ys p q a c = (p, (q, a))
each_choice P false r x xs ys p q a c = (q, c)

pub each_placed : (P : Entry → Type 0) (r : Entry) (rs : List Entry) → P r → Each P rs → Each P (placed r rs)
each_placed P r [] p a = (p, tt)
each_placed P r (x ∷ xs) p a = each_choice P (path_lt r.path x.path) r x xs (placed r xs) p a.0 a.1 (each_placed P r xs p a.1)

in_choice : (b : Bool) (r x : Entry) (xs ys : List Entry) (p : List ℕ) → (In p xs → In p ys) → In p (x ∷ xs) → In p (if b then r ∷ x ∷ xs else x ∷ ys)
in_choice true r x xs ys p f h = inr h
in_choice false r x xs ys p f h = elim h [ inl e ↦ inl e | inr i ↦ inr (f i) ]

-- what has a record keeps it as another one is placed
pub in_placed : (r : Entry) (rs : List Entry) (p : List ℕ) → In p rs → In p (placed r rs)
in_placed r [] p h = absurd h
in_placed r (x ∷ xs) p h = in_choice (path_lt r.path x.path) r x xs (placed r xs) p (in_placed r xs p) h

in_choice_self : (b : Bool) (r x : Entry) (xs ys : List Entry) → In r.path ys → In r.path (if b then r ∷ x ∷ xs else x ∷ ys)
in_choice_self true r x xs ys f = inl refl
in_choice_self false r x xs ys f = inr f

pub in_placed_self : (r : Entry) (rs : List Entry) → In r.path (placed r rs)
in_placed_self r [] = inl refl
in_placed_self r (x ∷ xs) = in_choice_self (path_lt r.path x.path) r x xs (placed r xs) (in_placed_self r xs)

found_choice : {P : Entry → Type 0} (b : Bool) (r : Entry) (rs : List Entry) (p : List ℕ) → same_path r.path p ≡ b → P r →
    (In p rs → (x : Entry) × (x.path ≡ p) × P x × (outcome_at rs p ≡ Some x.outcome)) → In p (r ∷ rs) →
    (x : Entry) × (x.path ≡ p) × P x × ((if b then Some r.outcome else outcome_at rs p) ≡ Some x.outcome)
found_choice true r rs p e a f h = (r, same_path_is r.path p e, a, refl)
found_choice false r rs p e a f h = elim h [ inl q ↦ absurd (let z : same_path r.path p ≡ true = rw q (same_path_refl p) in cc) | inr i ↦ f i ]

-- where a path has a record, that is found, and so is its outcome
pub found : {P : Entry → Type 0} (rs : List Entry) (p : List ℕ) → Each P rs → In p rs → (r : Entry) × (r.path ≡ p) × P r × (outcome_at rs p ≡ Some r.outcome)
found [] p a h = absurd h
found (r ∷ rs) p a h = found_choice (same_path r.path p) r rs p refl a.0 (found rs p a.1) h

-- a derivation is the beginning of the record of its thread
pub record_extends : {job : Job} {es : List Event} {s : State} (r : Entry) (i : IsRecord job r) → Ran job r.path es s → Extends job es s r.events i.state
record_extends {es} {s} r i d = elim (cases_lt (length r.events) (length es)) [
  | inl l ↦ absurd (omega (arith, ap length (ended_rest r.outcome (leads d r.events i.state i.ran (omega arith)) i.ended).0, l))
  | inr l ↦ leads i.ran es s d l
]

begins_spawns : (es rest fs : List Event) → es ++ rest ≡ fs → spawns es ≤ spawns fs
begins_spawns es rest fs e = omega (arith, spawns_append es rest, ap spawns e)

abbrev HasChildren : List Entry → Entry → Type 0
HasChildren rs r = (k : ℕ) → k < spawns r.events → In (child_path r.path k) rs

-- a thread that was born has a record, since its parent's record begins with the events up to the Spawn
child_absorbed : {job : Job} {p q : List ℕ} {fs : List Event} {t c : State} {m : Moved} (rs : List Entry) → Complete job rs → In q rs →
    Ran job q fs t → awaits t ≡ None → step job t None ≡ Some m → m.child ≡ Some c → p ≡ c.path → In p rs
child_absorbed {job} {p} {q} {fs} {t} {c} {m} rs all i d a h g e =
    let x = found {P = λ r. IsRecord job r × HasChildren rs r} rs q (each_both (IsRecord job) (HasChildren rs) rs all.each all.children) i in
    let y = child_facts job t None m c h g in
    let more : Ran job q (fs ++ m.event ∷ []) m.next = alone d a h refl refl in
    let z : Extends job (fs ++ m.event ∷ []) m.next x.0.events x.2.0.state = record_extends x.0 x.2.0 (subst (λ k. Ran job k (fs ++ m.event ∷ []) m.next) (sym x.1) more) in
    let n : t.children < spawns x.0.events = omega (arith, begins_spawns (fs ++ m.event ∷ []) z.rest x.0.events z.joins, spawns_push fs m.event, ap one_spawn y.event, (named d).children) in
    let v : child_path x.0.path t.children ≡ p = ap (λ k. child_path k t.children) (x.1 ∙ sym (named d).path) ∙ (sym y.path ∙ sym e) in
    subst (λ k. In k rs) v (x.2.1 t.children n)

-- each thread of the job has a record among complete ones
pub absorbed : {job : Job} {p : List ℕ} {es : List Event} {s : State} (rs : List Entry) → Complete job rs → Ran job p es s → In p rs
absorbed {job} rs all (root {k} {m} g a b c) = subst (λ q. In q rs) (sym a) (all.roots k (slice_get_within job.program.mains k m g))
absorbed rs all (born d a h g e f i) = child_absorbed rs all (absorbed rs all d) d a h g e
absorbed rs all (alone d a h e g) = absorbed rs all d
absorbed rs all (joined d d' a b h e g) = absorbed rs all d
