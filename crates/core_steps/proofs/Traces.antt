-- Traces from a reached configuration: where each thread that they join has ended in it, the configuration that results is reached; and an ended
-- thread has no trace.
use Rattle.std.proofs.Common.{◌≡◌, ◌≢◌, ℕ, ◌+◌, ◌≤◌, List, [], ◌∷◌, ◌++◌, Option, Some, None, length, ◌⊎◌, inl, inr, refl, sym, ◌∙◌, ap, subst, arith, length-append, append_assoc, append-nil}
use Rattle.std.proofs.lemmas.Option.{none-some}
use Rattle.priml_syntax.specs.declared.event.Event.{Event}
use Rattle.priml_syntax.specs.declared.event.Event.TheVariants.{Join}
use Rattle.priml_syntax.specs.Values.{Outcome'}
use Rattle.priml_syntax.specs.Events.{spawns, ends, AllJoins}
use Rattle.core_steps.specs.Steps.{Job, State, Moved, step, awaits, Ran, alone, joined, outcome_in}
use Rattle.core_steps.specs.Config.{Thread, handed, after, Reached}
use Rattle.core_steps.specs.Determined.{EndsWith, Fed, Trace, here, next, events_in, events_of, IsIn, HasEnded}
use Rattle.core_steps.specs.Laws.{Grown, SegmentsReach, EndedStops, TracesDetermine}
use Rattle.core_steps.proofs.StepFacts.{joins_awaited, ended_phase, ended_stops}
use Rattle.core_steps.proofs.Named.{spawns_append}
use Rattle.core_steps.proofs.OneState.{leads, ended_rest, same_outcome, unique}
use Rattle.core_steps.proofs.Threads.{same_or_not}
use Rattle.core_steps.proofs.Closed.{Closed, Choice, choice_followed, given_ended, in_stays, events_moved, events_others, steps_after, unended_after}
use Rattle.core_steps.proofs.Starts.{reached_closed, reached_on}

-- the steps of a trace are a thread's own
pub traced : {job : Job} {p : List ℕ} {n : ℕ} {es : List Event} {t : State} → Trace job p n es t → (fs : List Event) × (length fs ≡ n) × Ran job p (fs ++ es) t
traced {job} {p} {t = t} (here e (fs, l, r)) = (fs, l, subst (λ xs. Ran job p xs t) (sym (append-nil fs) ∙ ap (λ xs. fs ++ xs) (sym e)) r)
traced (next {fs = fs} None m tr fed st e q) =
    let r = traced tr in
    (r.0, r.1, alone r.2 fed st (ap (λ xs. r.0 ++ xs) e ∙ sym (append_assoc r.0 fs (m.event ∷ []))) q)
traced (next {fs = fs} (Some o) m tr (b, w, x) st e q) =
    let r = traced tr in
    (r.0, r.1, joined r.2 x.2 w x.3 st (ap (λ xs. r.0 ++ xs) e ∙ sym (append_assoc r.0 fs (m.event ∷ []))) q)

pub traces_determine : (job : Job) → TracesDetermine job
traces_determine job p n es s tr = let r = traced tr in (r.0 ++ es, omega (arith, r.1, length-append r.0 es), r.2)

ends_append : (es fs : List Event) → ends (es ++ fs) ≡ ends es + ends fs
ends_append [] fs = omega arith
ends_append (x ∷ es) fs = omega (arith, ends_append es fs)

grown_none : (job : Job) (c : List Thread) (p : List ℕ) (es : List Event) → Reached job c → es ≡ [] → Grown job c p es c
grown_none job c p es r e = record {
  reached = r;
  grew = sym (append-nil (events_of c p)) ∙ ap (λ x. events_of c p ++ x) (sym e);
  others = λ q n. refl;
  stay = λ q i. i;
  steps = omega (arith, ap length e);
  live = omega (arith, ap ends e, ap spawns e);
}

-- a choice is a step of one thread
grown_once : (job : Job) (c : List Thread) (p : List ℕ) → Reached job c → (x : Choice job c p) → Grown job c p (x.move.event ∷ []) (after c x.thread x.move)
grown_once job c p r x =
    let k : Closed job c = reached_closed job c r in
    record {
      reached = reached_on job c (after c x.thread x.move) (p ∷ []) r (choice_followed job c p x);
      grew = events_moved job c k p x;
      others = events_others job c k p x;
      stay = in_stays job c k p x;
      steps = steps_after job c k p x;
      live = omega (arith, unended_after job c k p x);
    }

-- and further steps of the thread
grown_more : (job : Job) (c d b : List Thread) (p : List ℕ) (es fs gs : List Event) → gs ≡ es ++ fs → Grown job c p es d → Grown job d p fs b → Grown job c p gs b
grown_more job c d b p es fs gs e x y = record {
  reached = y.reached;
  grew = y.grew ∙ (ap (λ z. z ++ fs) x.grew ∙ (append_assoc (events_of c p) es fs ∙ ap (λ z. events_of c p ++ z) (sym e)));
  others = λ q n. y.others q n ∙ x.others q n;
  stay = λ q i. y.stay q (x.stay q i);
  steps = omega (arith, x.steps, y.steps, ap length e, length-append es fs);
  live = omega (arith, x.live, y.live, ap ends e, ap spawns e, ends_append es fs, spawns_append es fs);
}

-- the joins of a list that has one event more: those before, and that of the event
joins_split : (P : List ℕ → Type 0) (es : List Event) (e : Event) → AllJoins P (es ++ e ∷ []) → AllJoins P es × ((b : List ℕ) → e ≡ Join b → P b)
joins_split P [] e h = (tt, λ b q. let z : AllJoins P (Join b ∷ []) = subst (λ x. AllJoins P (x ∷ [])) q h in z.0)
joins_split P (Join b ∷ es) e h = let x = joins_split P es e h.1 in ((h.0, x.0), x.1)
joins_split P (x ∷ es) e h = joins_split P es e h

-- a thread that has ended is as it was after further steps of one thread
ended_later : (job : Job) (c d : List Thread) (p : List ℕ) (es : List Event) (b : List ℕ) (o : Outcome') → Reached job c → Grown job c p es d → HasEnded c b → EndsWith job b o → handed d (Some b) ≡ Some (Some o)
ended_later job c d p es b o r g h w =
    let v : IsIn d b = g.stay b (h.0, h.2) in
    let kc : Ran job b h.0.events h.0.state = (reached_closed job c r).ran b h.0 h.2 in
    let kd : Ran job b v.0.events v.0.state = (reached_closed job d g.reached).ran b v.0 v.1 in
    let l : length h.0.events ≤ length v.0.events = omega (arith, not_fewer (same_or_not b p), ap (λ x. length (events_in x)) h.2, ap (λ x. length (events_in x)) v.1) in
    let e = ended_phase h.0.state.phase h.1 h.3 in
    let s : h.0.state ≡ v.0.state = (ended_rest h.1 (leads kd h.0.events h.0.state kc l) e).1 in
    let q : h.1 ≡ o = same_outcome h.1 o (leads kc) w.2 e w.3 in
    given_ended d b v.0 o v.1 (sym (ap (λ x. outcome_in x.phase) s) ∙ (h.3 ∙ ap Some q))
  where
    not_fewer : (b ≡ p) ⊎ (b ≢ p) → length (events_of c b) ≤ length (events_of d b)
    not_fewer (inl z) = subst (λ q. length (events_of c q) ≤ length (events_of d q)) (sym z) (omega (arith, ap length g.grew, length-append (events_of c p) es))
    not_fewer (inr n) = omega (arith, ap length (g.others b n))

-- the next step of the thread is a choice
one_more : (job : Job) (c d : List Thread) (p : List ℕ) (n : ℕ) (fs : List Event) (s : State) (o : Option Outcome') (m : Moved) → Reached job c → IsIn c p → n ≡ length (events_of c p) →
    Trace job p n fs s → Fed job s o → step job s o ≡ Some m → ((b : List ℕ) → m.event ≡ Join b → HasEnded c b) → Grown job c p fs d → (x : Choice job d p) × (x.move ≡ m)
one_more job c d p n fs s o m r i l tr fed st j g =
    (record { thread = u.0; outcome = o; move = m; found = u.1; given = ap (λ z. handed d (awaits z)) (sym same) ∙ given o fed st; steps = ap (λ z. step job z o) (sym same) ∙ st }, refl)
  where
    u : IsIn d p
    u = g.stay p i

    same : s ≡ u.0.state
    same =
        let x = traced tr in
        (unique ((reached_closed job d g.reached).ran p u.0 u.1) x.2 (omega (arith, x.1, l, length-append x.0 fs, ap length g.grew, length-append (events_of c p) fs, ap (λ z. length (events_in z)) u.1))).1

    given : (o : Option Outcome') → Fed job s o → step job s o ≡ Some m → handed d (awaits s) ≡ Some o
    given None a h = ap (handed d) a
    given (Some x) (b, a, w) h = ap (handed d) a ∙ ended_later job c d p fs b x r g (j b (joins_awaited job s (Some x) m b a h)) w

-- step by step
segment : {job : Job} {p : List ℕ} {n : ℕ} {es : List Event} {t : State} (c : List Thread) → Reached job c → IsIn c p → n ≡ length (events_of c p) → Trace job p n es t → AllJoins (HasEnded c) es → (d : List Thread) × Grown job c p es d
segment {job} {p} {es} c r i l (here e d) j = (c, grown_none job c p es r e)
segment {job} {p} {n} {es} c r i l (next {fs} {s} o m tr fed st e q) j =
    let k = joins_split (HasEnded c) fs m.event (subst (AllJoins (HasEnded c)) e j) in
    let x = segment c r i l tr k.0 in
    let y = one_more job c x.0 p n fs s o m r i l tr fed st k.1 x.1 in
    (after x.0 y.0.thread y.0.move, grown_more job c x.0 (after x.0 y.0.thread y.0.move) p fs (y.0.move.event ∷ []) es (e ∙ ap (λ z. fs ++ z.event ∷ []) (sym y.1)) x.1 (grown_once job x.0 p x.1.reached y.0))

pub segments_reach : (job : Job) → SegmentsReach job
segments_reach job c p n es t r i l tr j = segment c r i l tr j

-- an ended thread makes no step
no_trace : (job : Job) (c : List Thread) (p : List ℕ) {n : ℕ} {es : List Event} {t : State} → Closed job c → HasEnded c p → n ≡ length (events_of c p) → Trace job p n es t → es ≡ []
no_trace job c p k h l (here e d) = e
no_trace job c p {n} k h l (next {fs} {s} o m tr fed st e q) =
    let z : fs ≡ [] = no_trace job c p k h l tr in
    let r = traced tr in
    let v : s ≡ h.0.state = (unique (k.ran p h.0 h.2) r.2 (omega (arith, r.1, l, length-append r.0 fs, ap length z, ap (λ x. length (events_in x)) h.2))).1 in
    absurd (none-some m (sym (ended_stops job s h.1 o (ap (λ x. outcome_in x.phase) v ∙ h.3)) ∙ st))

pub ended_makes_none : (job : Job) → EndedStops job
ended_makes_none job = record { no_step = ended_stops job; no_trace = λ c p es t r h tr. no_trace job c p (reached_closed job c r) h refl tr }
