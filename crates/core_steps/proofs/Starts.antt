-- The configuration of the roots alone, and that what is reached from it is closed and has as many steps as there were choices.
use Rattle.std.proofs.Common.{◌≡◌, ℕ, zero, suc, ◌+◌, ◌<◌, List, [], ◌∷◌, ◌++◌, Option, Some, None, length, inl, inr, refl, sym, ◌∙◌, ap, subst, arith, length-append}
use Rattle.std.specs.Prelude.{slice_get}
use Rattle.std.specs.Option.{option_and_then}
use Rattle.std.specs.List.{AllByRecursion}
use Rattle.std.proofs.lemmas.List.{same_from_push}
use Rattle.std.proofs.lemmas.Option.{same_Some, none-some, option_and_then_some, slice_get_within}
use Rattle.priml_syntax.specs.Tree.{Routine}
use Rattle.priml_syntax.specs.Paths.{Precedes}
use Rattle.priml_syntax.specs.Events.{spawns}
use Rattle.core_steps.specs.Steps.{Job, Ran, root, root_state}
use Rattle.core_steps.specs.Config.{Thread, thread_by_path, chosen, followed, roots_from, begin, Reached, ReachedIn}
use Rattle.core_steps.specs.Determined.{events_in, events_of, IsIn, steps_of, unended}
use Rattle.core_steps.specs.Laws.{IsRoot, Starts}
use Rattle.core_steps.proofs.Names.{OfPhase}
use Rattle.core_steps.proofs.Threads.{InOrder, same_or_not, found_first, found_behind}
use Rattle.core_steps.proofs.Closed.{Closed, choice, closed_after, steps_after}

abbrev root_thread : Routine → ℕ → Thread
root_thread m k = record { state = root_state m k; events = [] }

-- the thread is that of a main
record IsRootOf (ms : List Routine) (k : ℕ) (p : List ℕ) (t : Thread) : Type 0 where
  pub i : ℕ
  pub main : Routine
  pub got : slice_get ms i ≡ Some main
  pub path : p ≡ (k + i) ∷ []
  pub thread : t ≡ root_thread main (k + i)

is_root : (ms : List Routine) (k : ℕ) (p : List ℕ) (t : Thread) → thread_by_path (roots_from ms k) p ≡ Some t → IsRootOf ms k p t
is_root [] k p t e = absurd (none-some t e)
is_root (m ∷ ms) k p t e = elim (same_or_not (k ∷ []) p) [
  | inl s ↦ (let z : k ≡ k + 0 = omega arith in record { i = 0; main = m; got = refl; path = sym s ∙ ap (λ n. n ∷ []) z; thread = same_Some t (root_thread m k) (sym e ∙ found_first (root_thread m k) (roots_from ms (k + 1)) p s) ∙ ap (root_thread m) z })
  | inr n ↦ (let r : IsRootOf ms (k + 1) p t = is_root ms (k + 1) p t (sym (found_behind (root_thread m k) (roots_from ms (k + 1)) p n) ∙ e) in
      let z : k + 1 + r.i ≡ k + suc r.i = omega arith in
      record { i = suc r.i; main = r.main; got = r.got; path = r.path ∙ ap (λ j. j ∷ []) z; thread = r.thread ∙ ap (root_thread r.main) z })
]

root_there : (ms : List Routine) (k i : ℕ) → i < length ms → IsIn (roots_from ms k) ((k + i) ∷ [])
root_there [] k i l = absurd (omega (arith, l))
root_there (m ∷ ms) k zero l = let z : k ≡ k + 0 = omega arith in (root_thread m k, found_first (root_thread m k) (roots_from ms (k + 1)) ((k + 0) ∷ []) (ap (λ n. n ∷ []) z))
root_there (m ∷ ms) k (suc i) l =
    let z : k + 1 + i ≡ k + suc i = omega arith in
    let r : IsIn (roots_from ms (k + 1)) ((k + suc i) ∷ []) = subst (λ n. IsIn (roots_from ms (k + 1)) (n ∷ [])) z (root_there ms (k + 1) i (omega (arith, l))) in
    (r.0, found_behind (root_thread m k) (roots_from ms (k + 1)) ((k + suc i) ∷ []) (λ e. omega (arith, (same_from_push [] [] k (k + suc i) e).1)) ∙ r.1)

roots_in_order : (ms : List Routine) (k : ℕ) → InOrder (roots_from ms k)
roots_in_order [] k = tt
roots_in_order (m ∷ ms) k = (later ms (k + 1) (omega arith), roots_in_order ms (k + 1))
  where
    later : (ms : List Routine) (j : ℕ) → k < j → AllByRecursion (λ x. Precedes (k ∷ []) x.state.path) (roots_from ms j)
    later [] j l = tt
    later (n ∷ ms) j l = (inl l, later ms (j + 1) (omega (arith, l)))

no_events : (ms : List Routine) (k : ℕ) (p : List ℕ) → events_of (roots_from ms k) p ≡ []
no_events ms k p = go (thread_by_path (roots_from ms k) p) refl
  where
    go : (o : Option Thread) → thread_by_path (roots_from ms k) p ≡ o → events_of (roots_from ms k) p ≡ []
    go None e = ap events_in e
    go (Some t) e = ap events_in e ∙ ap (λ x. x.events) (is_root ms k p t e).thread

roots_of : (job : Job) (p : List ℕ) → IsIn (begin job) p → IsRoot job p
roots_of job p i = let r = is_root job.program.mains 0 p i.0 i.1 in (r.i, slice_get_within job.program.mains r.i r.main r.got, r.path ∙ (let z : 0 + r.i ≡ r.i = omega arith in ap (λ n. n ∷ []) z))

of_root : (job : Job) (p : List ℕ) → IsRoot job p → IsIn (begin job) p
of_root job p r = let z : 0 + r.0 ≡ r.0 = omega arith in subst (IsIn (begin job)) (ap (λ n. n ∷ []) z ∙ sym r.2) (root_there job.program.mains 0 r.0 r.1)

no_steps : (ms : List Routine) (k : ℕ) → steps_of (roots_from ms k) ≡ 0
no_steps [] k = refl
no_steps (m ∷ ms) k = omega (arith, no_steps ms (k + 1))

all_live : (ms : List Routine) (k : ℕ) → unended (roots_from ms k) ≡ length ms
all_live [] k = refl
all_live (m ∷ ms) k = omega (arith, all_live ms (k + 1))

-- the start: the roots alone, none of which has made a step
pub starts : (job : Job) → Starts job
starts job = record {
  reached = (0, ([], refl, refl));
  empty = no_events job.program.mains 0;
  roots = λ p. (roots_of job p, of_root job p);
  no_steps = no_steps job.program.mains 0;
  live = all_live job.program.mains 0;
}

-- the start is closed
root_ran : (job : Job) (p : List ℕ) (t : Thread) → thread_by_path (begin job) p ≡ Some t → Ran job p t.events t.state
root_ran job p t e =
    let r = is_root job.program.mains 0 p t e in
    let z : 0 + r.i ≡ r.i = omega arith in
    root r.got (r.path ∙ ap (λ n. n ∷ []) z) (ap (λ x. x.events) r.thread) (ap (λ x. x.state) r.thread ∙ ap (root_state r.main) z)

begin_closed : (job : Job) → Closed job (begin job)
begin_closed job = record {
  ran = root_ran job;
  order = roots_in_order job.program.mains 0;
  roots = of_root job;
  children = λ q n l. absurd (omega (arith, l, ap spawns (no_events job.program.mains 0 q)));
  parents = λ p i. inl (roots_of job p i);
  names = λ p t e. subst (λ x. OfPhase (IsIn (begin job)) x.state.phase) (sym (is_root job.program.mains 0 p t e).thread) tt;
}

-- what follows from a closed configuration is closed, and has as many more steps as there were choices
pub followed_closed : (job : Job) (ts : List Thread) (ps : List (List ℕ)) (us : List Thread) → Closed job ts → followed job ts ps ≡ Some us → Closed job us × (steps_of us ≡ steps_of ts + length ps)
followed_closed job ts [] us k e = let q : ts ≡ us = same_Some ts us e in (subst (Closed job) q k, ap steps_of (sym q) ∙ omega arith)
followed_closed job ts (p ∷ ps) us k e =
    option_and_then_some (λ vs. followed job vs ps) (chosen job ts p) us e
    (λ vs q h. let c = choice job ts p vs q in
    let x = followed_closed job vs ps us (subst (Closed job) c.1 (closed_after job ts k p c.0)) h in
    (x.0, omega (arith, x.1, steps_after job ts k p c.0, ap steps_of c.1)))

pub reached_closed : (job : Job) (ts : List Thread) → Reached job ts → Closed job ts
reached_closed job ts (n, (ps, l, e)) = (followed_closed job (begin job) ps ts (begin_closed job) e).0

-- a configuration that n choices lead to has n steps
pub reached_steps : (job : Job) (ts : List Thread) (n : ℕ) → ReachedIn job n ts → steps_of ts ≡ n
reached_steps job ts n (ps, l, e) = omega (arith, (followed_closed job (begin job) ps ts (begin_closed job) e).1, no_steps job.program.mains 0, l)

-- choices that follow on choices
pub followed_append : (job : Job) (ts us vs : List Thread) (ps qs : List (List ℕ)) → followed job ts ps ≡ Some us → followed job us qs ≡ Some vs → followed job ts (ps ++ qs) ≡ Some vs
followed_append job ts us vs [] qs e h = ap (λ xs. followed job xs qs) (same_Some ts us e) ∙ h
followed_append job ts us vs (p ∷ ps) qs e h = option_and_then_some (λ xs. followed job xs ps) (chosen job ts p) us e (λ xs c k. ap (option_and_then (λ z. followed job z (ps ++ qs))) c ∙ followed_append job xs us vs ps qs k h)

-- what follows from a reached configuration is reached
pub reached_on : (job : Job) (ts us : List Thread) (qs : List (List ℕ)) → Reached job ts → followed job ts qs ≡ Some us → Reached job us
reached_on job ts us qs (n, (ps, l, e)) h = (n + length qs, (ps ++ qs, omega (arith, l, length-append ps qs), followed_append job (begin job) ts us ps qs e h))
