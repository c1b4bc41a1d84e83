-- No thread of a checked job is stuck, and none awaits a thread of a lower or an unrelated priority.
use Rattle.std.proofs.Common.{◌≡◌, ℕ, List, [], Option, Some, None, refl, sym, ◌∙◌, ap, subst, map, append-nil}
use Rattle.priml_syntax.specs.declared.event.Event.{Event}
use Rattle.priml_syntax.specs.declared.prio.Prio.{Prio}
use Rattle.priml_syntax.specs.Tree.{Type', thread, Body, bind, Act, sync, Constraint, pairs_of}
use Rattle.type_rules.specs.Typing.{ActHas}
use Rattle.priority_order.specs.Order.{AtMost}
use Rattle.core_steps.specs.Steps.{Job, Frame, Phase, Run, State, Moved, step, awaits, awaits_phase, awaits_code, awaits_action, thread_in, prio_of, Ran}
use Rattle.core_steps.specs.Laws.{IsChecked, NeverStuck, AwaitsSafely}
use Rattle.core_steps.proofs.StepFacts.{fed_step}
use Rattle.core_steps.proofs.Typed.{settled, Under, setting_at, Born, begins, CodeFits, fits, AllHave, PhaseHas}
use Rattle.core_steps.proofs.TypedResults.{settled_get}
use Rattle.core_steps.proofs.Settled.{entailed_meets}
use Rattle.core_steps.proofs.OneState.{one_state}
use Rattle.core_steps.proofs.TypedSteps.{MovesTo, thread_there, step_moves}
use Rattle.core_steps.proofs.Kept.{kept, IsBorn, each_born}

-- a step came
moves : (job : Job) (q : ℕ) (t : Type') (o : Option Moved) → MovesTo job q t o → (m : Moved) × (o ≡ Some m)
moves job q t None h = absurd h
moves job q t (Some m) h = (m, refl)

-- a state that has not ended makes a step, as soon as what it awaits has ended
pub never_stuck : (job : Job) → IsChecked job → NeverStuck job
never_stuck job checked p es s d live =
    let b : IsBorn job p s.prio = each_born checked d in
    let h : PhaseHas job s.prio s.phase b.type = kept checked d s.prio b.type b.born in
    record {
      free = λ e. moves job s.prio b.type (step job s None) (step_moves job checked s.prio b.type d None h live e);
      fed = λ a o e w. fed_step job s a o e;
    }

-- the thread, where there is one, was born at a priority that this one is at most
abbrev IsSafe : Job → ℕ → Option (List ℕ) → Type 0
IsSafe job q None = Unit {0}
IsSafe job q (Some b) = (n : ℕ) × (A : Type') × Born job b n A × AtMost (pairs_of job.program) q n

action_safe : (job : Job) (q : ℕ) (t : Frame) (given : List Constraint) (all : List Type') (r : Prio) (a : Act) (A : Type') → Under job t.prios given r q → AllHave job t.scope (map (settled t.prios) all) →
    ActHas a (setting_at job given) all r A → IsSafe job q (awaits_action t a)
action_safe job q t given all r (sync x) A under values (p, e, holds) =
    let there = thread_there x (prio_of t.prios p) (settled t.prios A) values (settled_get job t.prios all x (thread p A) e) in
    let safe : AtMost (pairs_of job.program) (prio_of t.prios r) (prio_of t.prios p) = entailed_meets (pairs_of job.program) given t.prios holds under.meets in
    subst (IsSafe job q) (sym (ap thread_in there.1)) (prio_of t.prios p, settled t.prios A, there.2, subst (λ z. AtMost (pairs_of job.program) z (prio_of t.prios p)) under.own safe)
action_safe job q t given all r a A under values has = tt

code_safe : (job : Job) (q : ℕ) (t : Frame) (c : Body) (w : Type') → CodeFits job c t.scope t.prios [] q w → IsSafe job q (awaits_code t c)
code_safe job q t (bind at a k) w (fits given r T all have under has within values e gives) = action_safe job q t given all r a has.0 under (subst (AllHave job t.scope) (sym (append-nil have) ∙ e) values) has.1
code_safe job q t c w h = tt

phase_safe : (job : Job) (q : ℕ) (f : Phase) (u : Type') → PhaseHas job q f u → IsSafe job q (awaits_phase f)
phase_safe job q (Run t fs) u h = code_safe job q t t.code h.0 h.1
phase_safe job q f u h = tt

-- a thread runs at the priority at which it was born
born_prio : {job : Job} {b : List ℕ} {fs : List Event} {u : State} {n : ℕ} {A : Type'} → Ran job b fs u → Born job b n A → n ≡ u.prio
born_prio {job} {b} {fs} {u} d (begins {s = s2} d2 at fresh c) = sym at ∙ (one_state job).prio b [] fs s2 u d2 d

-- what a thread awaits has a priority that its own is at most
pub awaits_safely : (job : Job) → IsChecked job → AwaitsSafely job
awaits_safely job checked p b es fs s u d d2 e =
    let i : IsBorn job p s.prio = each_born checked d in
    let h : IsSafe job s.prio (awaits s) = phase_safe job s.prio s.phase i.type (kept checked d s.prio i.type i.born) in
    let z : IsSafe job s.prio (Some b) = subst (IsSafe job s.prio) e h in
    subst (AtMost (pairs_of job.program) s.prio) (born_prio d2 z.2) z.3
