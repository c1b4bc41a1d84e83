-- What a step needs, and what it leaves: the fields stand for the state of the job's thread before and after it.
use Rattle.std.proofs.Common.{◌≡◌, ℕ, ◌+◌, List, [], ◌∷◌, ◌++◌, Option, Some, None, refl, sym, ap, ◌∙◌, subst}
use Rattle.std.specs.Prelude.{IfSome}
use Rattle.std.specs.Option.{option_and_then, option_map}
use Rattle.std.proofs.lemmas.Option.{same_Some}
use Rattle.std.proofs.lemmas.List.{length_push}
use Rattle.priml_syntax.specs.declared.event.Event.{Event}
use Rattle.priml_syntax.specs.declared.event.Event.TheVariants.{Join, Spawn}
use Rattle.priml_syntax.specs.declared.block.TailForm.{TailForm}
use Rattle.priml_syntax.specs.declared.block.TailForm.TheVariants.{Ret, If', Case'}
use Rattle.priml_syntax.specs.Read.{read_tail}
use Rattle.priml_syntax.specs.Tree.{Tree}
use Rattle.priml_syntax.specs.Values.{Outcome'}
use Rattle.core_steps.specs.Determined.{Fed}
use Rattle.core_steps.specs.Fields.{FrameFields, LocalFields, body_at, Mode', fresh, running, failing, ended, frame_of, frames_of, fresh_phase, phase_of, state_of}
use Rattle.core_steps.specs.Laws.{IsChecked}
use Rattle.core_steps.specs.Locals.{IsLocal, IsFed, ended_with}
use Rattle.core_steps.specs.Inside.Locals.{IsWaiting}
use Rattle.core_steps.specs.Moves.{Goes}
use Rattle.core_steps.specs.Inside.Moves.{CanStep}
use Rattle.core_steps.specs.Steps.{Job, Frame, Phase, Fresh, Run, Failing, State, step, awaits, awaits_phase, awaits_code, outcome_in, Ran, born, alone, joined}
use Rattle.core_steps.proofs.CheckedStates.{never_stuck}
use Rattle.core_steps.proofs.StepFacts.{step_facts, child_facts, joins_awaited}
use Rattle.core_steps.proofs.Opened.{frame_is}
use Rattle.core_steps.proofs.Moves.{in_phase, running_state, not_ended}

-- a phase that the fields stand for, and what they tell of it
record Opened (p : Tree) (l : LocalFields) (s : State) : Type 0 where
  pub phase : Phase
  pub opens : phase_of p l l.mode ≡ Some phase
  pub is : in_phase l phase ≡ s

opened : (p : Tree) (l : LocalFields) (s : State) → state_of p l ≡ Some s → Opened p l s
opened p l s e = go (phase_of p l l.mode) refl e
  where
    go : (o : Option Phase) → phase_of p l l.mode ≡ o → option_map (in_phase l) o ≡ Some s → Opened p l s
    go None q h = absurd (cc)
    go (Some f) q h = record { phase = f; opens = q; is = same_Some (in_phase l f) s h }

not_fresh : (p : Tree) (l : LocalFields) (s : State) → Opened p l s → l.mode ≡ fresh → (b : List ℕ) → awaits s ≡ Some b → ⊥
not_fresh p l s o mode b is = go (frame_of p l.top) l.below (sym (ap (phase_of p l) mode) ∙ o.opens)
  where
    clash : (t : Frame) → Fresh t ≡ o.phase → ⊥
    clash t e =
        let none : awaits s ≡ None = ap awaits (sym o.is) ∙ ap awaits_phase (sym e) in
        let no : ◌≡◌ {A = Option (List ℕ)} None (Some b) = sym none ∙ is in
        absurd (cc)

    go : (x : Option Frame) (fs : List FrameFields) → fresh_phase x fs ≡ Some o.phase → ⊥
    go None [] h = absurd (cc)
    go x (f ∷ fs) h = absurd (cc)
    go (Some t) [] h = clash t (same_Some (Fresh t) o.phase h)

no_await : (t : TailForm) (at : ℕ) (f : Frame) → awaits_code f (read_tail t at) ≡ None
no_await (Ret e) at f = refl
no_await (If' e p x q y) at f = refl
no_await (Case' e p x q y) at f = refl

pub state_path : (p : Tree) (l : LocalFields) (s : State) → state_of p l ≡ Some s → s.path ≡ l.path
state_path p l s e = ap (λ (x : State). x.path) (sym (opened p l s e).is)

pub live_phase : (p : Tree) (l : LocalFields) (m : Mode') (f : Phase) → ended_with m ≡ None → phase_of p l m ≡ Some f → outcome_in f ≡ None
live_phase p l fresh f none e = go (frame_of p l.top) l.below e
  where
    go : (o : Option Frame) (fs : List FrameFields) → fresh_phase o fs ≡ Some f → outcome_in f ≡ None
    go None [] h = absurd (cc)
    go o (x ∷ fs) h = absurd (cc)
    go (Some t) [] h = ap outcome_in (sym (same_Some (Fresh t) f h))
live_phase p l running f none e = go (frame_of p l.top) (frames_of p l.below) e
  where
    go : (o : Option Frame) (r : Option (List Frame)) → option_and_then (λ t. option_map (Run t) r) o ≡ Some f → outcome_in f ≡ None
    go None r h = absurd (cc)
    go (Some t) None h = absurd (cc)
    go (Some t) (Some fs) h = ap outcome_in (sym (same_Some (Run t fs) f h))
live_phase p l (failing k) f none e = ap outcome_in (sym (same_Some (Failing k) f e))
live_phase p l (ended o) f none e = absurd (cc)

-- the number of steps plays no part in the state
phase_steps : (p : Tree) (l : LocalFields) (n : ℕ) (m : Mode') → phase_of p (record l { steps = n }) m ≡ phase_of p l m
phase_steps p l n fresh = refl
phase_steps p l n running = refl
phase_steps p l n (failing k) = refl
phase_steps p l n (ended o) = refl

pub goes_counted : (job : Job) (l : LocalFields) (w : Option Outcome') (e : Event) (child : Option LocalFields) (l' : LocalFields) (n : ℕ) → Goes job l w e child l' → Goes job l w e child (record l' { steps = n })
goes_counted job l w e child l' n g =
    record {
      old = g.old;
      move = g.move;
      opens = g.opens;
      steps = g.steps;
      event = g.event;
      next = ap (option_map (in_phase l')) (phase_steps job.program l' n l'.mode) ∙ g.next;
      born = g.born;
      new = g.new;
    }

-- a thread that has not ended makes its step, where the awaited outcome is handed in
pub can_step : (job : Job) → IsChecked job → (l : LocalFields) → IsLocal job l → ended_with l.mode ≡ None → (w : Option Outcome') → IsFed job l w → CanStep job l w
can_step job checked l local live w fed = go w (fed local.state local.opens)
  where
    o : Opened job.program l local.state
    o = opened job.program l local.state local.opens

    none : outcome_in local.state.phase ≡ None
    none = ap (λ (x : State). outcome_in x.phase) (sym (opened job.program l local.state local.opens).is) ∙ live_phase job.program l l.mode (opened job.program l local.state local.opens).phase live (opened job.program l local.state local.opens).opens

    go : (w : Option Outcome') → Fed job local.state w → CanStep job l w
    go None f =
        let m = (never_stuck job checked l.path local.determined.0 local.state local.determined.2 none).free f in
        (local.state, m.0, local.opens, m.1)
    go (Some x) f =
        let m = (never_stuck job checked l.path local.determined.0 local.state local.determined.2 none).fed f.0 x f.1 f.2 in
        (local.state, m.0, local.opens, m.1)

-- after the step
pub steps_on : (job : Job) (l : LocalFields) (w : Option Outcome') (e : Event) (child : Option LocalFields) (l' : LocalFields) → IsLocal job l → IsFed job l w → Goes job l w e child l' → l'.steps ≡ l.steps + 1 → IsLocal job l'
steps_on job l w e child l' local fed g count = go w (fed g.old g.opens) g.steps
  where
    same : local.state ≡ g.old
    same = same_Some local.state g.old (sym local.opens ∙ g.opens)

    ran : Ran job l.path local.determined.0 g.old
    ran = subst (Ran job l.path local.determined.0) (same_Some local.state g.old (sym local.opens ∙ g.opens)) local.determined.2

    path : l.path ≡ l'.path
    path = sym (state_path job.program l g.old g.opens) ∙ (sym (step_facts job g.old w g.move g.steps).path ∙ state_path job.program l' g.move.next g.next)

    done : Ran job l.path (local.determined.0 ++ g.move.event ∷ []) g.move.next → IsLocal job l'
    done d =
        record {
          state = g.move.next;
          opens = g.next;
          determined = (local.determined.0 ++ g.move.event ∷ [], length_push local.determined.0 g.move.event ∙ (ap (λ n. n + 1) local.determined.1 ∙ sym count), subst (λ p. Ran job p (local.determined.0 ++ g.move.event ∷ []) g.move.next) (sym (state_path job.program l g.old g.opens) ∙ (sym (step_facts job g.old w g.move g.steps).path ∙ state_path job.program l' g.move.next g.next)) d);
        }

    go : (x : Option Outcome') → Fed job g.old x → step job g.old x ≡ Some g.move → IsLocal job l'
    go None f s = done (alone ran f s refl refl)
    go (Some x) f s = done (joined ran f.2.2 f.1 f.2.3 s refl refl)

-- and so the child
pub steps_to : (job : Job) (l : LocalFields) (w : Option Outcome') (e : Event) (child : Option LocalFields) (l' : LocalFields) → IsLocal job l → IsFed job l w → Goes job l w e child l' → IfSome child (IsLocal job)
steps_to job l w e None l' local fed g = tt
steps_to job l w e (Some c) l' local fed g = go g.move.child refl g.born
  where
    ran : Ran job l.path local.determined.0 g.old
    ran = subst (Ran job l.path local.determined.0) (same_Some local.state g.old (sym local.opens ∙ g.opens)) local.determined.2

    free : (x : State) → g.move.child ≡ Some x → (w : Option Outcome') → Fed job g.old w → step job g.old w ≡ Some g.move → (awaits g.old ≡ None) × (step job g.old None ≡ Some g.move)
    free x q None f s = (f, s)
    free x q (Some o) f s =
        let join : g.move.event ≡ Join f.0 = joins_awaited job g.old (Some o) g.move f.0 f.1 s in
        let spawn : g.move.event ≡ Spawn = (child_facts job g.old (Some o) g.move x s q).event in
        let clash : Join f.0 ≡ Spawn = sym join ∙ spawn in
        absurd (cc)

    go : (o : Option State) → g.move.child ≡ o → Some (state_of job.program c) ≡ option_map Some o → IsLocal job c
    go None q h = absurd (cc)
    go (Some x) q h =
        let alone_step = free x q w (fed g.old g.opens) g.steps in
        let opens : state_of job.program c ≡ Some x = same_Some (state_of job.program c) (Some x) h in
        record { state = x; opens = opens; determined = ([], sym g.new, born ran alone_step.0 alone_step.1 q (sym (state_path job.program c x opens)) refl refl) }

-- a state that awaits a thread has an action left to run
pub ending_waits : (job : Job) (l : LocalFields) (w : Option Outcome') (t : TailForm) (at : ℕ) → CanStep job l w → IsWaiting job l → body_at job.program l.top ≡ Some (read_tail t at) → ⊥
ending_waits job l w t at can waits body = go l.mode refl (opened job.program l can.0 can.2)
  where
    awaited : (b : List ℕ) × (awaits can.0 ≡ Some b)
    awaited = waits can.0 can.2

    go : (m : Mode') → l.mode ≡ m → Opened job.program l can.0 → ⊥
    go fresh q o = not_fresh job.program l can.0 o q awaited.0 awaited.1
    go running q o =
        let r = running_state job.program l can.0 q can.2 in
        let code = (frame_is job.program l.top r.top r.top_is).0 in
        let same : r.top.code ≡ read_tail t at = same_Some r.top.code (read_tail t at) (sym code ∙ body) in
        let none : awaits can.0 ≡ None = ap awaits r.is ∙ (ap (awaits_code r.top) same ∙ no_await t at r.top) in
        let clash : ◌≡◌ {A = Option (List ℕ)} None (Some awaited.0) = sym none ∙ awaited.1 in
        absurd (cc)
    go (failing k) q o =
        let same : in_phase l (Failing k) ≡ can.0 = same_Some (in_phase l (Failing k)) can.0 (sym (ap (λ m. option_map (in_phase l) (phase_of job.program l m)) q) ∙ can.2) in
        let clash : ◌≡◌ {A = Option (List ℕ)} None (Some awaited.0) = ap awaits same ∙ awaited.1 in
        absurd (cc)
    go (ended x) q o = not_ended job l w x can q
