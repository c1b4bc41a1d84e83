-- The laws of the core as the rule uses them.
use Rattle.std.proofs.Common.{◌≡◌, ◌≢◌, ℕ, ◌+◌, ◌<◌, ◌≤◌, List, [], ◌∷◌, ◌++◌, length, sym, refl, ap, ◌∙◌, subst, arith, Option, Some, None, Bool, true, false, true≢false, is_some, length-append}
use Rattle.std.specs.Option.{option_and_then}
use Rattle.std.proofs.lemmas.Option.{none-some}
use Rattle.priml_syntax.specs.declared.event.Event.{Event}
use Rattle.priml_syntax.specs.declared.event.Event.TheVariants.{Start, Plain, Spawn, Join, Read, Wrote, End}
use Rattle.priml_syntax.specs.Events.{spawns, ends, one_end, AllJoins}
use Rattle.priml_syntax.specs.Values.{Outcome'}
use Rattle.core_steps.specs.Config.{Thread, thread_by_path, Reached}
use Rattle.core_steps.specs.Determined.{EndsWith, Trace, here, next, events_in, events_of, IsIn, HasEnded, steps_of, one_live, unended}
use Rattle.core_steps.specs.Steps.{Job, State, outcome_in}
use Rattle.core_steps.specs.Laws.{CoreLaws, Grown}
use Rattle.core_steps.proofs.CoreLaws.{core_laws}
use Rattle.core_steps.proofs.StepFacts.{ended_phase, step_facts}
use Rattle.join_board.specs.Threads.{outcome_at, Spawns, is_end, ended}

some_none : {A : Type 0} (o : Outcome') → (Some o ≡ None) → A
some_none o e = absurd (none-some o (sym e))

-- P may be weakened at each join
pub all_joins : (P Q : List ℕ → Type 0) → ((b : List ℕ) → P b → Q b) → (es : List Event) → AllJoins P es → AllJoins Q es
all_joins P Q f [] h = h
all_joins P Q f (Start ∷ es) h = all_joins P Q f es h
all_joins P Q f (Plain ∷ es) h = all_joins P Q f es h
all_joins P Q f (Spawn ∷ es) h = all_joins P Q f es h
all_joins P Q f (Join b ∷ es) h = (f b h.0, all_joins P Q f es h.1)
all_joins P Q f (Read ∷ es) h = all_joins P Q f es h
all_joins P Q f (Wrote n ∷ es) h = all_joins P Q f es h
all_joins P Q f (End ∷ es) h = all_joins P Q f es h

is_end_is : (e : Event) → is_end e ≡ true → e ≡ End
is_end_is End h = refl
is_end_is e h = absurd (true≢false (sym h))

ended_is : (es : List Event) → ended es ≡ true → (fs : List Event) × (es ≡ fs ++ End ∷ [])
ended_is [] h = absurd (true≢false (sym h))
ended_is (e ∷ []) h = ([], ap (λ (x : Event). x ∷ []) (is_end_is e h))
ended_is (e ∷ f ∷ es) h = let z = ended_is (f ∷ es) h in (e ∷ z.0, ap (λ xs. e ∷ xs) z.1)

ended_snoc : (fs : List Event) (e : Event) → ended (fs ++ e ∷ []) ≡ is_end e
ended_snoc [] e = refl
ended_snoc (x ∷ []) e = refl
ended_snoc (x ∷ y ∷ fs) e = ended_snoc (y ∷ fs) e

pub outcome_found : (c : List Thread) (p : List ℕ) (t : Thread) → thread_by_path c p ≡ Some t → outcome_at c p ≡ outcome_in t.state.phase
outcome_found c p t e = ap (λ (x : Option Thread). option_and_then (λ (u : Thread). outcome_in u.state.phase) x) e

-- a thread has ended in the configuration exactly where its events end in End
pub ended_has : (job : Job) (c : List Thread) (p : List ℕ) → Reached job c → ended (events_of c p) ≡ true → HasEnded c p
ended_has job c p r e = ((core_laws job).counts.last c p r).1 (ended_is (events_of c p) e)

pub has_ended : (job : Job) (c : List Thread) (p : List ℕ) → Reached job c → HasEnded c p → ended (events_of c p) ≡ true
has_ended job c p r h = let z = ((core_laws job).counts.last c p r).0 h in ap ended z.1 ∙ ended_snoc z.0 End

pub has_outcome : (job : Job) (c : List Thread) (p : List ℕ) (o : Outcome') → Reached job c → IsIn c p → outcome_at c p ≡ Some o → ended (events_of c p) ≡ true
has_outcome job c p o r inside e = has_ended job c p r (inside.0, o, inside.1, sym (outcome_found c p inside.0 inside.1) ∙ e)

pub no_outcome : (job : Job) (c : List Thread) (p : List ℕ) → Reached job c → outcome_at c p ≡ None → ended (events_of c p) ≡ false
no_outcome job c p r e = go (ended (events_of c p)) refl
  where
    go : (b : Bool) → ended (events_of c p) ≡ b → ended (events_of c p) ≡ false
    go false h = h
    go true h = let z = ended_has job c p r h in some_none z.1 (sym z.3 ∙ (sym (outcome_found c p z.0 z.2) ∙ e))

-- and the outcome is the thread's
pub agrees : (job : Job) (c : List Thread) (p : List ℕ) (o : Outcome') → Reached job c → IsIn c p → outcome_at c p ≡ Some o → EndsWith job p o
agrees job c p o r inside e = let t = inside.0 in (t.events, t.state, (core_laws job).determined c p t r inside.1, ended_phase t.state.phase o (sym (outcome_found c p t inside.1) ∙ e))

-- where none has not ended, each has ended
pub all_ended : (job : Job) (c : List Thread) (p : List ℕ) → Reached job c → IsIn c p → unended c ≡ 0 → ended (events_of c p) ≡ true
all_ended job c p r inside e = go (ended (events_of c p)) refl
  where
    go : (b : Bool) → ended (events_of c p) ≡ b → ended (events_of c p) ≡ true
    go true h = h
    go false h = absurd (let z = (core_laws job).counts.some c p r inside (λ y. true≢false (sym (has_ended job c p r y) ∙ h)) in omega (arith, z, e))

-- a thread that a step of the configuration spawned is one of it
pub child : (job : Job) (c : List Thread) (q : List ℕ) (n : ℕ) (p : List ℕ) → Reached job c → Spawns job q n p → n ≤ length (events_of c q) → IsIn c p
child job c q n p r sp few = let d = sp.2 in subst (IsIn c) (sym sp.4) ((core_laws job).children c q d.0 sp.0 sp.1 r d.2 (omega (arith, d.1, few)) sp.3)

end_told : (e : Event) (o : Option Outcome') → one_live o + one_end e ≡ 1 → is_end e ≡ is_some o
end_told End None h = absurd (omega arith)
end_told End (Some x) h = refl
end_told Start None h = refl
end_told Start (Some x) h = absurd (omega arith)
end_told Plain None h = refl
end_told Plain (Some x) h = absurd (omega arith)
end_told Spawn None h = refl
end_told Spawn (Some x) h = absurd (omega arith)
end_told (Join b) None h = refl
end_told (Join b) (Some x) h = absurd (omega arith)
end_told Read None h = refl
end_told Read (Some x) h = absurd (omega arith)
end_told (Wrote n) None h = refl
end_told (Wrote n) (Some x) h = absurd (omega arith)

-- after some steps, the last is End exactly where there is an outcome
pub last_end : (job : Job) (p : List ℕ) (n : ℕ) (es : List Event) (t : State) → Trace job p n es t → 0 < length es → ended es ≡ is_some (outcome_in t.phase)
last_end job p n es t (here e d) some_step = absurd (let l = ap length e in omega (arith, l, some_step))
last_end job p n es t (next {fs = fs} {s = s} o m tr fed st e q) some_step =
    ap ended e ∙ (ended_snoc fs m.event ∙ (end_told m.event (outcome_in m.next.phase) (step_facts job s o m st).ends ∙ ap (λ (x : State). is_some (outcome_in x.phase)) (sym q)))

-- an ended thread makes no step
pub stuck : (job : Job) (c : List Thread) (p : List ℕ) (n : ℕ) (es : List Event) (t : State) → Reached job c → n ≡ length (events_of c p) → Trace job p n es t → ended (events_of c p) ≡ true → es ≡ []
stuck job c p n es t r count tr done = (core_laws job).ended.no_trace c p es t r (ended_has job c p r done) (subst (λ (k : ℕ). Trace job p k es t) count tr)

-- the thread p made its next steps, and nothing else changed but that its children came
pub record Advanced (job : Job) (c : List Thread) (p : List ℕ) (es : List Event) (t : State) (d : List Thread) : Type 0 where
  pub reached : Reached job d
  pub events : events_of d p ≡ events_of c p ++ es
  pub outcome : outcome_at d p ≡ outcome_in t.phase
  pub threads : (q : List ℕ) → IsIn c q → IsIn d q
  pub others : (q : List ℕ) → q ≢ p → events_of d q ≡ events_of c q
  pub outcomes : (q : List ℕ) → q ≢ p → IsIn c q → outcome_at d q ≡ outcome_at c q
  pub steps : steps_of d ≡ steps_of c + length es
  pub count : unended d + ends es ≡ unended c + spawns es

-- a thread of a reached configuration makes its next steps, each thread that they join having ended: the configuration that results is reached
pub segment : (job : Job) (c : List Thread) (p : List ℕ) (n : ℕ) (es : List Event) (t : State) → Reached job c → IsIn c p → n ≡ length (events_of c p) → Trace job p n es t → AllJoins (λ b. ended (events_of c b) ≡ true) es
    → (d : List Thread) × Advanced job c p es t d
segment job c p n es t r inside count tr joins = (
  d,
  record {
    reached = g.reached;
    events = g.grew;
    outcome = outcome_found d p u.0 u.1 ∙ ap (λ (x : State). outcome_in x.phase) mine;
    threads = g.stay;
    others = g.others;
    outcomes = λ q m h. let v = g.stay q h in outcome_found d q v.0 v.1 ∙ (ap (λ (x : State). outcome_in x.phase) (same q m h) ∙ sym (outcome_found c q h.0 h.1));
    steps = g.steps;
    count = g.live;
  },
)
  where
    laws : CoreLaws job
    laws = core_laws job

    all : (d : List Thread) × Grown job c p es d
    all = laws.segments c p n es t r inside count tr (all_joins (λ b. ended (events_of c b) ≡ true) (HasEnded c) (λ b h. ended_has job c b r h) es joins)

    d : List Thread
    d = all.0

    g : Grown job c p es d
    g = all.1

    u : IsIn d p
    u = g.stay p inside

    mine : u.0.state ≡ t
    mine = let w = laws.traced p n es t tr in (laws.one_state.same p u.0.events w.0 u.0.state t (laws.determined d p u.0 g.reached u.1) w.2
        (let a = ap length (sym (ap events_in u.1) ∙ g.grew) in let b = length-append (events_of c p) es in omega (arith, a, b, w.1, count))).1

    same : (q : List ℕ) → q ≢ p → (h : IsIn c q) → (g.stay q h).0.state ≡ h.0.state
    same q m h = let v = g.stay q h in (laws.one_state.same q v.0.events h.0.events v.0.state h.0.state (laws.determined d q v.0 g.reached v.1) (laws.determined c q h.0 r h.1)
        (ap length (sym (ap events_in v.1) ∙ (g.others q m ∙ ap events_in h.1)))).1
