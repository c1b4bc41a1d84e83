-- The states that tasks stand for.
use Rattle.std.proofs.Common.{◌≡◌, List, [], ◌∷◌, ◌++◌, length, length-append, Bool, true, false, ◌||◌, true≢false, Option, Some, None, refl, sym, ◌∙◌, ap, subst, arith}
use Rattle.std.specs.Prelude.{is_some}
use Rattle.std.specs.Option.{option_map}
use Rattle.std.proofs.lemmas.Option.{same_Some, none-some}
use Rattle.priml_syntax.specs.declared.event.Event.{Event}
use Rattle.priml_syntax.specs.Tree.{Tree}
use Rattle.priml_syntax.specs.Values.{Outcome'}
use Rattle.core_steps.specs.Determined.{Determined, Fed, here}
use Rattle.core_steps.specs.Fields.{LocalFields, Mode', fresh, running, failing, ended, phase_of, state_of}
use Rattle.core_steps.specs.Locals.{IsFed, IsLocal, ended_with}
use Rattle.core_steps.specs.Steps.{Job, Fresh, Phase, Ran, State, outcome_in}
use Rattle.core_steps.proofs.FirstEvents.{fresh_awaits, fresh_first, one_fresh}
use Rattle.core_steps.proofs.Moves.{in_phase}
use Rattle.core_steps.proofs.Standing.{ended_state}
use Rattle.core_steps.proofs.StepLaws.{live_phase}
use Rattle.core_steps.proofs.Traces.{traced}
use Rattle.task_state.specs.Tasks.{TaskFields, OfJob, IsFedRight, IsStart, Stands, awaits_in, awaited_of, begun, has_ended, unfed}

phase_is : (p : Tree) (l : LocalFields) (s : State) → state_of p l ≡ Some s → (f : Phase) × (phase_of p l l.mode ≡ Some f) × (f ≡ s.phase)
phase_is p l s e = go (phase_of p l l.mode) refl e
  where
    go : (o : Option Phase) → phase_of p l l.mode ≡ o → option_map (in_phase l) o ≡ Some s → (f : Phase) × (phase_of p l l.mode ≡ Some f) × (f ≡ s.phase)
    go None q h = absurd (none-some s h)
    go (Some f) q h = (f, q, ap (λ (x : State). x.phase) (same_Some (in_phase l f) s h))

state_is : (p : Tree) (l : LocalFields) (s : State) → state_of p l ≡ Some s → (f : Phase) × (in_phase l f ≡ s)
state_is p l s e = go (phase_of p l l.mode) e
  where
    go : (o : Option Phase) → option_map (in_phase l) o ≡ Some s → (f : Phase) × (in_phase l f ≡ s)
    go None h = absurd (none-some s h)
    go (Some f) h = (f, same_Some (in_phase l f) s h)

pub state_prio : (p : Tree) (l : LocalFields) (s : State) → state_of p l ≡ Some s → s.prio ≡ l.prio
state_prio p l s e = ap (λ (x : State). x.prio) (sym (state_is p l s e).1)

pub state_children : (p : Tree) (l : LocalFields) (s : State) → state_of p l ≡ Some s → s.children ≡ l.children
state_children p l s e = ap (λ (x : State). x.children) (sym (state_is p l s e).1)

-- the fields tell how the state has ended
pub mode_outcome : (p : Tree) (l : LocalFields) (s : State) → state_of p l ≡ Some s → ended_with l.mode ≡ outcome_in s.phase
mode_outcome p l s e = go l.mode refl
  where
    live : ended_with l.mode ≡ None → ended_with l.mode ≡ outcome_in s.phase
    live n = let f = phase_is p l s e in n ∙ sym (ap outcome_in (sym f.2) ∙ live_phase p l l.mode f.0 n f.1)

    go : (m : Mode') → l.mode ≡ m → ended_with l.mode ≡ outcome_in s.phase
    go fresh q = live (ap ended_with q)
    go running q = live (ap ended_with q)
    go (failing k) q = live (ap ended_with q)
    go (ended o) q = ap ended_with q ∙ sym (ended_state p l o s q e)

neither : (a : Bool) (o : Option Outcome') → (a || is_some o) ≡ false → (a ≡ false) × (o ≡ None)
neither true o e = absurd (true≢false e)
neither false None e = (refl, refl)
neither false (Some x) e = absurd (true≢false e)

-- a task that has not ended has its outcome neither handed out nor there
pub not_over : (t : TaskFields) → has_ended t ≡ false → (t.over ≡ false) × (ended_with t.local.mode ≡ None)
not_over t e = neither t.over (ended_with t.local.mode) e

-- the state stands in the fields as long as its outcome was not handed out
pub opens : (job : Job) (t : TaskFields) (h : OfJob job t) → t.over ≡ false → state_of job.program t.local ≡ Some h.state
opens job t h over = subst (λ (b : Bool). Stands job t.local b h.state) over h.stands

-- the state is determined
pub determined : (job : Job) (t : TaskFields) (h : OfJob job t) → Determined job t.local.path t.local.steps h.state
determined job t h = let r = traced h.trace in (r.0 ++ t.pending, omega (arith, length-append r.0 t.pending, r.1, h.counted), r.2)

pub local_of : (job : Job) (t : TaskFields) → OfJob job t → t.over ≡ false → IsLocal job t.local
local_of job t h over = record { state = h.state; opens = opens job t h over; determined = determined job t h }

-- what was fed is what the next step needs
pub fed_of : (job : Job) (t : TaskFields) → OfJob job t → t.over ≡ false → awaited_of t ≡ None → IsFed job t.local t.fed
fed_of job t h over free s e = subst (λ (x : State). Fed job x t.fed) (same_Some h.state s (sym (opens job t h over) ∙ e)) (go t.fed h.fed free)
  where
    go : (o : Option Outcome') → IsFedRight job h.state o → unfed o (awaits_in t) ≡ None → Fed job h.state o
    go None f n = h.awaits ∙ n
    go (Some o) f n = f

nil_of : (es : List Event) → length es ≡ 0 → es ≡ []
nil_of [] e = refl
nil_of (x ∷ es) e = absurd (omega (arith, e))

-- a thread that has not started is a task
begun_of : (job : Job) (l : LocalFields) → IsLocal job l → l.steps ≡ 0 → OfJob job (begun l)
begun_of job l local zero =
    record {
      state = local.state;
      from = 0;
      stands = local.opens;
      trace = here refl (subst (λ n. Determined job l.path n local.state) zero local.determined);
      counted = sym zero;
      only_last = tt;
      awaits = fresh_awaits local.determined.2 (nil_of local.determined.0 (local.determined.1 ∙ zero));
      fed = tt;
      named = refl;
      rest = λ e. refl;
    }

fresh_lives : (f : Phase) → one_fresh f ≡ 1 → outcome_in f ≡ None
fresh_lives (Fresh t) e = refl
fresh_lives f e = absurd (omega (arith, e))

-- and one that has not ended
pub start_of : (job : Job) (l : LocalFields) → IsLocal job l → l.steps ≡ 0 → IsStart job (begun l)
start_of job l local zero =
    record {
      task = begun_of job l local zero;
      steps = zero;
      pending = refl;
      fed = refl;
      live = ap is_some (mode_outcome job.program l local.state local.opens ∙ fresh_lives local.state.phase first);
    }
  where
    first : one_fresh local.state.phase ≡ 1
    first = let d = local.determined in fresh_first (subst (λ es. Ran job l.path es local.state) (nil_of d.0 (d.1 ∙ zero)) d.2)
