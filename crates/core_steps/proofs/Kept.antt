-- Each thread of a checked job is born with a type at its priority, and each of its states has that type.
use Rattle.std.proofs.Common.{◌≡◌, ℕ, ◌<◌, List, [], Option, Some, None, length, map, refl, sym, ◌∙◌, ap, subst}
use Rattle.std.specs.Prelude.{slice_get}
use Rattle.std.proofs.lemmas.Option.{same_Some}
use Rattle.priml_syntax.specs.declared.event.Event.{Event}
use Rattle.priml_syntax.specs.Tree.{Type', Routine, inside, pairs_of}
use Rattle.priml_syntax.specs.Values.{Outcome'}
use Rattle.priml_syntax.specs.Scoped.{PrioIn, BodyIn, MainIn}
use Rattle.type_rules.specs.Typable.{RoutineTyped}
use Rattle.core_steps.specs.Steps.{Job, State, Moved, step, awaits, root_state, Ran, root, born, alone, joined}
use Rattle.core_steps.specs.Laws.{IsChecked}
use Rattle.core_steps.proofs.Typed.{settled, Meets, scope_at, Born, begins, fits, none, FrameHas, PhaseHas}
use Rattle.core_steps.proofs.Settled.{declared_at}
use Rattle.core_steps.proofs.TypedSteps.{ChildHas, MovesTo, Handed, at_number, inside_has, inside_in, step_moves}
use Rattle.core_steps.proofs.StepFacts.{step_facts, live_before}
use Rattle.core_steps.proofs.OneState.{unique}

-- the first state of a thread has the types with which the thread was born
first_kept : {job : Job} {p : List ℕ} {es : List Event} {s : State} {q : ℕ} {t : Type'} → es ≡ [] → Ran job p es s → Born job p q t → PhaseHas job q s.phase t
first_kept {job} {p} {s = s} {q} {t} e d (begins {s = s2} d2 at fresh c) =
    let same : s ≡ s2 = (unique d2 (subst (λ z. Ran job p z s) e d) refl).1 in
    subst (λ f. PhaseHas job q f t) (sym (ap (λ z. z.phase) same ∙ fresh)) c

-- a step that was made keeps the type
made : (job : Job) → IsChecked job → (q : ℕ) (t : Type') {p : List ℕ} {es : List Event} {s : State} → Ran job p es s → (o : Option Outcome') (m : Moved) → PhaseHas job q s.phase t → Handed job (awaits s) o → step job s o ≡ Some m → MovesTo job q t (Some m)
made job checked q t {s = s} d o m h handed e = subst (MovesTo job q t) e (step_moves job checked q t d o h (live_before job s o m e) handed)

-- each state of a thread has each type with which the thread was born
pub kept : {job : Job} → IsChecked job → {p : List ℕ} {es : List Event} {s : State} → Ran job p es s → (q : ℕ) (t : Type') → Born job p q t → PhaseHas job q s.phase t
kept checked (root {k = k} {m = m} g a b c) q t x = first_kept b (root {k = k} {m = m} g a b c) x
kept checked (born d a b c e f g) q t x = first_kept f (born d a b c e f g) x
kept {job} checked {s = s} (alone {t = s2} {m} d a e g h) q t x =
    subst (λ z. PhaseHas job q z.phase t) (sym h) (made job checked q t d None m (kept checked d q t x) a e).0
kept {job} checked {s = s} (joined {b} {t = s2} {u} {o} {m} d d2 a e g h i) q t x =
    subst (λ z. PhaseHas job q z.phase t) (sym i) (made job checked q t d (Some o) m (kept checked d q t x) (b, a, λ n A y. subst (λ z. PhaseHas job n z A) e (kept checked d2 n A y)) g).0

-- the thread is born at this priority
pub record IsBorn (job : Job) (p : List ℕ) (q : ℕ) : Type 0 where
  pub type : Type'
  pub born : Born job p q type

-- a main has the type that it declares
main_born : {job : Job} → IsChecked job → {p : List ℕ} {es : List Event} {s : State} (k : ℕ) (m : Routine) → slice_get job.program.mains k ≡ Some m → s ≡ root_state m k → es ≡ [] → Ran job p es s → IsBorn job p s.prio
main_born {job} checked {p} {s = s} k m there c e d =
    let typed : RoutineTyped job.program m = at_number (RoutineTyped job.program) job.program.mains k m checked.typable.mains there in
    let main : MainIn job.program m = at_number (MainIn job.program) job.program.mains k m checked.scoped.mains there in
    record {
      type = settled [] m.declares.gives;
      born = begins (subst (λ z. Ran job p z s) e d) refl (ap (λ z. z.phase) c)
          (fits m.declares.given m.declares.own m.declares.gives m.declares.params []
          (record {
            declared = tt;
            meets = subst (Meets (pairs_of job.program) []) (sym main.no_given) tt;
            scoped = subst (λ n. PrioIn (scope_at job n) m.declares.own) main.no_vars main.routine.own;
            own = sym (ap (λ z. z.prio) c);
          })
          (inside_has m.body _ _ _ _ typed)
          (subst (λ n. BodyIn (inside m.body) (scope_at job n) (length m.declares.params)) main.no_vars (inside_in m.body _ _ main.routine.body))
          none (ap (map (settled [])) (sym main.no_params)) refl);
    }

-- a child has the type of its block
child_born : {job : Job} {p : List ℕ} {es : List Event} {s c : State} (o : Option State) → o ≡ Some c → ChildHas job o → p ≡ c.path → s ≡ c → es ≡ [] → Ran job p es s → IsBorn job p s.prio
child_born None a h b e f d = absurd (cc)
child_born {job} {p} {s = s} {c} (Some x) a (f, t, fresh, h) b e nil d =
    let same : x ≡ s = same_Some x c a ∙ sym e in
    record {
      type = t;
      born = begins (subst (λ z. Ran job p z s) nil d) refl (ap (λ z. z.phase) (sym same) ∙ fresh) (subst (λ z. FrameHas job f [] z.prio t) same h);
    }

same_born : {job : Job} {p : List ℕ} {s : State} (t : State) (o : Option Outcome') (m : Moved) → IsBorn job p t.prio → step job t o ≡ Some m → s ≡ m.next → IsBorn job p s.prio
same_born {job} {p} t o m b e r = subst (IsBorn job p) (sym (ap (λ z. z.prio) r ∙ (step_facts job t o m e).prio)) b

-- each thread of a checked job is born, at its priority
pub each_born : {job : Job} → IsChecked job → {p : List ℕ} {es : List Event} {s : State} → Ran job p es s → IsBorn job p s.prio
each_born checked (root {k = k} {m = m} g a b c) = main_born checked k m g c b (root {k = k} {m = m} g a b c)
each_born {job} checked (born {t = t} {m = m} d a e h b nil c) =
    let parent = each_born checked d in
    child_born m.child h (made job checked t.prio parent.type d None m (kept checked d t.prio parent.type parent.born) a e).1 b c nil (born d a e h b nil c)
each_born checked (alone {t = t} {m = m} d a e g h) = same_born t None m (each_born checked d) e h
each_born checked (joined {t = t} {o = o} {m = m} d d2 a e g h i) = same_born t (Some o) m (each_born checked d) g i

-- a thread of a checked job runs at a priority that the program declares
pub prio_declared : {job : Job} → IsChecked job → {p : List ℕ} {es : List Event} {s : State} → Ran job p es s → s.prio < length job.program.names
prio_declared {job} checked {s = s} d = go (each_born checked d).born
  where
    go : {p : List ℕ} {q : ℕ} {t : Type'} → Born job p q t → q < length job.program.names
    go (begins {f = f} d at fresh (fits given r u all have under has within values e gives)) = subst (λ z. z < length job.program.names) under.own (declared_at job f.prios r under.declared under.scoped)
