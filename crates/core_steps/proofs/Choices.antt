-- What slots tell of the choices that their configuration allows.
use Rattle.std.proofs.Common.{◌≡◌, ℕ, List, Option, Some, None, refl, sym, ◌∙◌, ap, subst, Bool, true, false}
use Rattle.std.specs.Prelude.{Ok, Err}
use Rattle.priml_syntax.specs.declared.value.Outcome.{Outcome}
use Rattle.core_steps.specs.declared.config.CoreStop.{CoreStop}
use Rattle.core_steps.specs.declared.config.CoreStop.TheVariants.{NoThread, Waits, OutOfMemory}
use Rattle.core_steps.specs.declared.config.CoreStop.TheVariants as stop
use Rattle.std.specs.Option.{is_some, option_and_then, option_map}
use Rattle.std.proofs.lemmas.Option.{same_Some, none-some}
use Rattle.priml_syntax.specs.Values.{Outcome'}
use Rattle.core_steps.specs.Fields.{state_of}
use Rattle.core_steps.specs.Laws.{IsChecked}
use Rattle.core_steps.specs.Steps.{Job, State, Phase, Fresh, Run, Failing, Ended, Moved, step, awaits, awaits_phase, outcome_in}
use Rattle.core_steps.specs.Config.{Thread, thread_by_path, ended_of, handed, after, moved, chosen}
use Rattle.core_steps.specs.Configs.{SlotFields, threads_from, AreSlots, IsReady, IsWait}
use Rattle.core_steps.specs.Inside.Configs.{slot_at, outcome_of, IsEnded, IsNeed}
use Rattle.core_steps.proofs.CheckedStates.{never_stuck}
use Rattle.core_steps.proofs.StepFacts.{fed_step, ended_stops}
use Rattle.core_steps.proofs.Closed.{Closed}
use Rattle.core_steps.proofs.Starts.{reached_closed}
use Rattle.core_steps.proofs.Slots.{Stands, BothFind, all_stand, both_find, ended_stands}

-- the thread of a slot
pub found_thread : (job : Job) (ss : List SlotFields) (ts : List Thread) (q : List ℕ) (s : SlotFields) → threads_from job.program ss ≡ Some ts → slot_at ss q ≡ Some s → (t : Thread) × (thread_by_path ts q ≡ Some t) × Stands job.program s t
found_thread job ss ts q s e f = go (thread_by_path ts q) refl (subst (λ o. BothFind job.program o (thread_by_path ts q)) f (both_find job.program ss ts q (all_stand job.program ss ts e)))
  where
    go : (o : Option Thread) → thread_by_path ts q ≡ o → BothFind job.program (Some s) o → (t : Thread) × (thread_by_path ts q ≡ Some t) × Stands job.program s t
    go None a h = absurd h
    go (Some t) a h = (t, a, h)

pub no_thread : (job : Job) (ss : List SlotFields) (ts : List Thread) (q : List ℕ) → threads_from job.program ss ≡ Some ts → slot_at ss q ≡ None → thread_by_path ts q ≡ None
no_thread job ss ts q e f = go (thread_by_path ts q) (subst (λ o. BothFind job.program o (thread_by_path ts q)) f (both_find job.program ss ts q (all_stand job.program ss ts e)))
  where
    go : (o : Option Thread) → BothFind job.program None o → o ≡ None
    go None h = refl
    go (Some t) h = absurd h

-- what a thread hands in is the outcome of its slot
pub handed_is : (job : Job) (ss : List SlotFields) (ts : List Thread) (b : List ℕ) → threads_from job.program ss ≡ Some ts → handed ts (Some b) ≡ option_map Some (outcome_of (slot_at ss b))
handed_is job ss ts b e = go (slot_at ss b) refl
  where
    same : (o : Option Outcome') → option_and_then (λ x. Some (Some x)) o ≡ option_map Some o
    same None = refl
    same (Some x) = refl

    go : (o : Option SlotFields) → slot_at ss b ≡ o → handed ts (Some b) ≡ option_map Some (outcome_of o)
    go None f = ap ended_of (no_thread job ss ts b e f)
    go (Some s) f =
        let t = found_thread job ss ts b s e f in
        ap ended_of t.1 ∙ (same (outcome_in t.0.state.phase) ∙ ap (option_map Some) (sym (ended_stands job.program s t.0 t.2)))

-- a choice that is allowed
pub chosen_is : (job : Job) (ts : List Thread) (p : List ℕ) (t : Thread) (w : Option Outcome') (m : Moved) → thread_by_path ts p ≡ Some t → handed ts (awaits t.state) ≡ Some w → step job t.state w ≡ Some m → chosen job ts p ≡ Some (after ts t m)
chosen_is job ts p t w m e f g =
    ap (option_and_then (λ t. option_and_then (λ m. Some (after ts t m)) (moved job ts t))) e ∙
    (ap (λ o. option_and_then (λ m. Some (after ts t m)) (option_and_then (λ w. step job t.state w) o)) f ∙
    ap (option_and_then (λ m. Some (after ts t m))) g)

-- and those that are not
chosen_none : (job : Job) (ts : List Thread) (p : List ℕ) → thread_by_path ts p ≡ None → chosen job ts p ≡ None
chosen_none job ts p e = ap (option_and_then (λ t. option_and_then (λ m. Some (after ts t m)) (moved job ts t))) e

not_moved : (job : Job) (ts : List Thread) (p : List ℕ) (t : Thread) → thread_by_path ts p ≡ Some t → moved job ts t ≡ None → chosen job ts p ≡ None
not_moved job ts p t e f =
    ap (option_and_then (λ t. option_and_then (λ m. Some (after ts t m)) (moved job ts t))) e ∙ ap (option_and_then (λ m. Some (after ts t m))) f

ended_moves : (job : Job) (ts : List Thread) (t : Thread) (o : Outcome') → outcome_in t.state.phase ≡ Some o → moved job ts t ≡ None
ended_moves job ts t o e = go (handed ts (awaits t.state))
  where
    go : (h : Option (Option Outcome')) → option_and_then (λ w. step job t.state w) h ≡ None
    go None = refl
    go (Some w) = ended_stops job t.state o w e

pub ready_none : (job : Job) (ss : List SlotFields) (p : List ℕ) → slot_at ss p ≡ None → IsReady job ss p false
ready_none job ss p f ts e = ap is_some (sym (chosen_none job ts p (no_thread job ss ts p e f)))

pub ready_ended : (job : Job) (ss : List SlotFields) (p : List ℕ) (s : SlotFields) → slot_at ss p ≡ Some s → ((x : State) → state_of job.program s.local ≡ Some x → (o : Outcome') × (outcome_in x.phase ≡ Some o)) → IsReady job ss p false
ready_ended job ss p s f h ts e =
    let t = found_thread job ss ts p s e f in
    let o = h t.0.state t.2.state in
    ap is_some (sym (not_moved job ts p t.0 t.1 (ended_moves job ts t.0 o.0 o.1)))

pub ready_free : (job : Job) → IsChecked job → (ss : List SlotFields) (p : List ℕ) (s : SlotFields) → AreSlots job ss → slot_at ss p ≡ Some s → ((x : State) → state_of job.program s.local ≡ Some x → (awaits x ≡ None) × (outcome_in x.phase ≡ None)) → IsReady job ss p true
ready_free job checked ss p s c f h ts e =
    let t = found_thread job ss ts p s e f in
    let o = h t.0.state t.2.state in
    let same : c.threads ≡ ts = same_Some c.threads ts (sym c.reads ∙ e) in
    let ran = Closed.ran (reached_closed job c.threads c.reached) p t.0 (ap (λ us. thread_by_path us p) same ∙ t.1) in
    let m = (never_stuck job checked p t.0.events t.0.state ran o.1).free o.0 in
    ap is_some (sym (chosen_is job ts p t.0 None m.0 t.1 (ap (handed ts) o.0) m.1))

pub ready_awaits : (job : Job) (ss : List SlotFields) (p b : List ℕ) (s : SlotFields) (r : Bool) → slot_at ss p ≡ Some s → ((x : State) → state_of job.program s.local ≡ Some x → awaits x ≡ Some b) → r ≡ is_some (outcome_of (slot_at ss b)) → IsReady job ss p r
ready_awaits job ss p b s r f h is ts e = is ∙ go (outcome_of (slot_at ss b)) (handed_is job ss ts b e)
  where
    t : (t : Thread) × (thread_by_path ts p ≡ Some t) × Stands job.program s t
    t = found_thread job ss ts p s e f

    a : awaits t.0.state ≡ Some b
    a = let u = found_thread job ss ts p s e f in h u.0.state u.2.state

    go : (o : Option Outcome') → handed ts (Some b) ≡ option_map Some o → is_some o ≡ is_some (chosen job ts p)
    go None q = ap is_some (sym (not_moved job ts p t.0 t.1 (ap (option_and_then (λ w. step job t.0.state w)) (ap (handed ts) a ∙ q))))
    go (Some x) q = let m = fed_step job t.0.state b x a in ap is_some (sym (chosen_is job ts p t.0 (Some x) m.0 t.1 (ap (handed ts) a ∙ q) m.1))

-- the waits
pub wait_none : (job : Job) (ss : List SlotFields) (p : List ℕ) → slot_at ss p ≡ None → IsWait job ss p None
wait_none job ss p f ts e b w = none-some w.0 (sym (no_thread job ss ts p e f) ∙ w.1)

wait_thread : (job : Job) (ss : List SlotFields) (ts : List Thread) (p b : List ℕ) (s : SlotFields) (w : (t : Thread) × (thread_by_path ts p ≡ Some t) × (awaits t.state ≡ Some b) × (handed ts (Some b) ≡ None)) → threads_from job.program ss ≡ Some ts → slot_at ss p ≡ Some s → Stands job.program s w.0
wait_thread job ss ts p b s w e f = let t = found_thread job ss ts p s e f in subst (Stands job.program s) (same_Some t.0 w.0 (sym t.1 ∙ w.1)) t.2

pub wait_free : (job : Job) (ss : List SlotFields) (p : List ℕ) (s : SlotFields) → slot_at ss p ≡ Some s → ((x : State) → state_of job.program s.local ≡ Some x → awaits x ≡ None) → IsWait job ss p None
wait_free job ss p s f h ts e b w = none-some b (sym (h w.0.state (wait_thread job ss ts p b s w e f).state) ∙ w.2)

pub wait_given : (job : Job) (ss : List SlotFields) (p b : List ℕ) (s : SlotFields) → slot_at ss p ≡ Some s → ((x : State) → state_of job.program s.local ≡ Some x → awaits x ≡ Some b) → true ≡ is_some (outcome_of (slot_at ss b)) → IsWait job ss p None
wait_given job ss p b s f h is ts e d w = go (outcome_of (slot_at ss b)) is (handed_is job ss ts b e)
  where
    same : b ≡ d
    same = same_Some b d (sym (h w.0.state (wait_thread job ss ts p d s w e f).state) ∙ w.2)

    go : (o : Option Outcome') → true ≡ is_some o → handed ts (Some b) ≡ option_map Some o → ⊥
    go None i q = absurd (cc)
    go (Some x) i q = none-some (Some x) (sym w.3 ∙ (ap (λ z. handed ts (Some z)) (sym same) ∙ q))

pub wait_on : (job : Job) (ss : List SlotFields) (p b : List ℕ) (s : SlotFields) → slot_at ss p ≡ Some s → ((x : State) → state_of job.program s.local ≡ Some x → awaits x ≡ Some b) → false ≡ is_some (outcome_of (slot_at ss b)) → IsWait job ss p (Some b)
wait_on job ss p b s f h is ts e = go (outcome_of (slot_at ss b)) is (handed_is job ss ts b e)
  where
    go : (o : Option Outcome') → false ≡ is_some o → handed ts (Some b) ≡ option_map Some o → (t : Thread) × (thread_by_path ts p ≡ Some t) × (awaits t.state ≡ Some b) × (handed ts (Some b) ≡ None)
    go None i q = let t = found_thread job ss ts p s e f in (t.0, t.1, h t.0.state t.2.state, q)
    go (Some x) i q = absurd (cc)

ended_awaits : (f : Phase) (o : Outcome') → outcome_in f ≡ Some o → awaits_phase f ≡ None
ended_awaits (Ended x) o e = refl
ended_awaits (Fresh t) o e = refl
ended_awaits (Failing k) o e = refl
ended_awaits (Run t fs) o e = absurd (none-some o e)

pub wait_ended : (job : Job) (ss : List SlotFields) (p : List ℕ) (s : SlotFields) → slot_at ss p ≡ Some s → ((x : State) → state_of job.program s.local ≡ Some x → (o : Outcome') × (outcome_in x.phase ≡ Some o)) → IsWait job ss p None
wait_ended job ss p s f h = wait_free job ss p s f (λ x is. let o = h x is in ended_awaits x.phase o.0 o.1)

-- what a thread's next step needs
awaits_live : (f : Phase) (b : List ℕ) → awaits_phase f ≡ Some b → outcome_in f ≡ None
awaits_live (Ended x) b e = absurd (none-some b e)
awaits_live (Fresh t) b e = refl
awaits_live (Failing k) b e = refl
awaits_live (Run t fs) b e = refl

pub handed_ended : (job : Job) (ss : List SlotFields) (p : List ℕ) (s : SlotFields) → slot_at ss p ≡ Some s → ((x : State) → state_of job.program s.local ≡ Some x → (o : Outcome') × (outcome_in x.phase ≡ Some o)) → IsNeed job ss p (Err stop.Ended)
handed_ended job ss p s f h ts e = let t = found_thread job ss ts p s e f in let o = h t.0.state t.2.state in (t.0, o.0, t.1, o.1)

pub handed_free : (job : Job) (ss : List SlotFields) (p : List ℕ) (s : SlotFields) → slot_at ss p ≡ Some s → ((x : State) → state_of job.program s.local ≡ Some x → (awaits x ≡ None) × (outcome_in x.phase ≡ None)) → IsNeed job ss p (Ok None)
handed_free job ss p s f h ts e = let t = found_thread job ss ts p s e f in let o = h t.0.state t.2.state in (t.0, t.1, o.1, o.0, refl)

pub handed_awaits : (job : Job) (ss : List SlotFields) (p b : List ℕ) (s : SlotFields) (x : List ℕ × Outcome) → slot_at ss p ≡ Some s → ((y : State) → state_of job.program s.local ≡ Some y → awaits y ≡ Some b) → IsEnded ss b (Ok x) → IsNeed job ss p (Ok (Some x))
handed_awaits job ss p b s x f h i ts e =
    let t = found_thread job ss ts p s e f in
    let a : awaits t.0.state ≡ Some b = h t.0.state t.2.state in
    (t.0, t.1, awaits_live t.0.state.phase b a, a ∙ ap Some (sym i.0), ap (λ q. handed ts (Some q)) i.0 ∙ (handed_is job ss ts b e ∙ ap (option_map Some) i.1))

pub handed_stops : (job : Job) (ss : List SlotFields) (p b : List ℕ) (s : SlotFields) (why : CoreStop) → slot_at ss p ≡ Some s → ((y : State) → state_of job.program s.local ≡ Some y → awaits y ≡ Some b) → IsEnded ss b (Err why) → IsNeed job ss p (Err why)
handed_stops job ss p b s NoThread f h i ts e = absurd i
handed_stops job ss p b s stop.Ended f h i ts e = absurd i
handed_stops job ss p b s OutOfMemory f h i ts e = let t = found_thread job ss ts p s e f in (t.0, t.1, awaits_live t.0.state.phase b (h t.0.state t.2.state))
handed_stops job ss p b s (Waits c) f h i ts e =
    let t = found_thread job ss ts p s e f in
    (t.0, t.1, h t.0.state t.2.state ∙ ap Some (sym i.0), ap (λ q. handed ts (Some q)) i.0 ∙ (handed_is job ss ts b e ∙ ap (option_map Some) i.1))
