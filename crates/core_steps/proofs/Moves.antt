-- The rows of the table of steps, over the fields of a local state.
use Rattle.std.proofs.Common.{◌≡◌, ℕ, ◌+◌, ◌&&◌, nat_lt, true, List, [], ◌∷◌, ◌++◌, length, map, Option, Some, None, refl, sym, ap, ◌∙◌, if◌then◌else◌}
use Rattle.std.specs.Prelude.{slice_get, IfSome}
use Rattle.std.specs.Option.{option_and_then, option_map}
use Rattle.std.proofs.lemmas.Option.{same_Some}
use Rattle.priml_syntax.specs.declared.event.Event.{Event}
use Rattle.priml_syntax.specs.declared.event.Event.TheVariants.{Start, Plain, Spawn, End}
use Rattle.priml_syntax.specs.declared.prio.Prio.{Prio}
use Rattle.priml_syntax.specs.declared.value.FaultKind.{FaultKind}
use Rattle.priml_syntax.specs.declared.value.FaultKind.TheVariants.{Depth}
use Rattle.priml_syntax.specs.Paths.{child_path}
use Rattle.priml_syntax.specs.Tree.{Term, Code, Body, bind, ret_tail, Act, spawn, call, do_block, Routine, Tree, inside}
use Rattle.priml_syntax.specs.Values.{Value', thread_value, Outcome', returned, faulted}
use Rattle.core_steps.specs.declared.place.Turn.TheVariants.{Bind as At}
use Rattle.core_steps.specs.Expressions.{result_of, results_of, AllGave}
use Rattle.core_steps.specs.Fields.{FrameFields, LocalFields, fresh, running, failing, ended, body_at, frame_of, frames_of, fresh_phase, phase_of, state_of}
use Rattle.core_steps.specs.Moves.{Goes}
use Rattle.core_steps.specs.Inside.Moves.{CanStep, past, bound_in, within_frame, called_frame, child_of}
use Rattle.core_steps.specs.Steps.{Job, Frame, Phase, Fresh, Run, Failing, Ended, State, Moved, step, run_code, bound, fault_step, with_result, with_results, call_step, back_to, prio_of}
use Rattle.core_steps.proofs.Opened.{body_past, body_within, body_called, opened_at, frame_opens, frame_is, frames_push, frames_pop}

-- the state of these fields in a phase
abbrev pub in_phase : LocalFields → Phase → State
in_phase l f = record { path = l.path; prio = l.prio; reads = l.reads; children = l.children; phase = f }

-- a running state has its frames
pub record Running (p : Tree) (l : LocalFields) (s : State) : Type 0 where
  pub top : Frame
  pub below : List Frame
  pub top_is : frame_of p l.top ≡ Some top
  pub below_are : frames_of p l.below ≡ Some below
  pub is : s ≡ in_phase l (Run top below)

pub running_state : (p : Tree) (l : LocalFields) (s : State) → l.mode ≡ running → state_of p l ≡ Some s → Running p l s
running_state p l s mode e = go (frame_of p l.top) (frames_of p l.below) refl refl (sym (ap (λ m. option_map (in_phase l) (phase_of p l m)) mode) ∙ e)
  where
    go : (o : Option Frame) (r : Option (List Frame)) → frame_of p l.top ≡ o → frames_of p l.below ≡ r → option_map (in_phase l) (option_and_then (λ t. option_map (Run t) r) o) ≡ Some s → Running p l s
    go None r a b k = absurd (cc)
    go (Some t) None a b k = absurd (cc)
    go (Some t) (Some fs) a b k = record { top = t; below = fs; top_is = a; below_are = b; is = sym (same_Some (in_phase l (Run t fs)) s k) }

pub running_opens : (p : Tree) (l : LocalFields) (t : Frame) (fs : List Frame) → l.mode ≡ running → frame_of p l.top ≡ Some t → frames_of p l.below ≡ Some fs → state_of p l ≡ Some (in_phase l (Run t fs))
running_opens p l t fs mode a b =
    ap (λ m. option_map (in_phase l) (phase_of p l m)) mode ∙ (ap (λ o. option_map (in_phase l) (option_and_then (λ x. option_map (Run x) (frames_of p l.below)) o)) a ∙ ap (λ r. option_map (in_phase l) (option_map (Run t) r)) b)

-- the stack of a running state whose top frame has this left to run
pub record Stands (job : Job) (l : LocalFields) (c : Body) : Type 0 where
  pub below : List Frame
  pub below_are : frames_of job.program l.below ≡ Some below
  pub opens : state_of job.program l ≡ Some (in_phase l (Run (opened_at l.top c) below))

pub stands : (job : Job) (l : LocalFields) (w : Option Outcome') (c : Body) → CanStep job l w → l.mode ≡ running → body_at job.program l.top ≡ Some c → Stands job l c
stands job l w c can mode body =
    let r = running_state job.program l can.0 mode can.2 in
    let f = frame_opens job.program l.top c body in
    record { below = r.below; below_are = r.below_are; opens = running_opens job.program l (opened_at l.top c) r.below mode f r.below_are }

-- what a state steps to, from what its code does
pub goes_to : (job : Job) (l : LocalFields) (w : Option Outcome') (c : Body) (s : Stands job l c) (m : Moved) (e : Event) (child : Option LocalFields) (l' : LocalFields) →
    run_code job (in_phase l (Run (opened_at l.top c) s.below)) (opened_at l.top c) s.below c w ≡ Some m → m.event ≡ e → state_of job.program l' ≡ Some m.next → option_map (state_of job.program) child ≡ option_map Some m.child → IfSome child (λ (c : LocalFields). c.steps ≡ 0) → Goes job l w e child l'
goes_to job l w c s m e child l' runs event next born new =
    record { new = new; old = in_phase l (Run (opened_at l.top c) s.below); move = m; opens = s.opens; steps = runs; event = event; next = next; born = born }

-- the thread ends with a fault
pub faults : (job : Job) (l : LocalFields) (w : Option Outcome') (c : Body) (s : Stands job l c) (k : FaultKind) →
    run_code job (in_phase l (Run (opened_at l.top c) s.below)) (opened_at l.top c) s.below c w ≡ fault_step (in_phase l (Run (opened_at l.top c) s.below)) k → Goes job l w End None (record l { mode = ended (faulted k) })
faults job l w c s k runs = goes_to job l w c s _ End None (record l { mode = ended (faulted k) }) runs refl refl refl tt

-- its top frame gets a value for its next action
pub binds : (job : Job) (l : LocalFields) (w : Option Outcome') (at : ℕ) (a : Act) (k : Body) (s : Stands job l (bind at a k)) (e : Event) (v : Value') → l.mode ≡ running → body_at job.program l.top ≡ Some (bind at a k) →
    run_code job (in_phase l (Run (opened_at l.top (bind at a k)) s.below)) (opened_at l.top (bind at a k)) s.below (bind at a k) w ≡ Some (record { event = e; next = in_phase l (Run (bound (opened_at l.top (bind at a k)) k v) s.below); child = None }) →
    Goes job l w e None (record l { top = bound_in l.top v })
binds job l w at a k s e v mode body runs =
    let next = frame_opens job.program (bound_in l.top v) k (body_past job.program l.top at a k (l.top.scope ++ v ∷ []) body) in
    goes_to job l w (bind at a k) s _ e None (record l { top = bound_in l.top v }) runs refl (running_opens job.program (record l { top = bound_in l.top v }) (opened_at (bound_in l.top v) k) s.below mode next s.below_are) refl tt

-- the name of its next child
abbrev next_child : LocalFields → Prio → Value'
next_child l q = thread_value (child_path l.path l.children) (prio_of l.top.prios q)

abbrev pub after_spawn : LocalFields → Prio → LocalFields
after_spawn l q = record l { children = l.children + 1; top = bound_in l.top (next_child l q) }

abbrev spawned : LocalFields → Prio → Code → Body → List Frame → Moved
spawned l q b k fs =
    record {
      event = Spawn;
      next = in_phase (after_spawn l q) (Run (opened_at (bound_in l.top (next_child l q)) k) fs);
      child = Some (in_phase (child_of l (prio_of l.top.prios q)) (Fresh (opened_at (within_frame l.top (At l.top.done)) (inside b))));
    }

-- it spawns a thread with the block of its next action
pub spawns : (job : Job) (l : LocalFields) (w : Option Outcome') (at : ℕ) (q : Prio) (b : Code) (k : Body) (s : Stands job l (bind at (spawn q b) k)) → l.mode ≡ running → body_at job.program l.top ≡ Some (bind at (spawn q b) k) →
    nat_lt (length l.path) 32 && nat_lt l.children 4294967295 ≡ true → Goes job l w Spawn (Some (child_of l (prio_of l.top.prios q))) (after_spawn l q)
spawns job l w at q b k s mode body room =
    let next = frame_opens job.program (bound_in l.top (next_child l q)) k (body_past job.program l.top at (spawn q b) k (l.top.scope ++ next_child l q ∷ []) body) in
    let entered = frame_opens job.program (within_frame l.top (At l.top.done)) (inside b) (body_within job.program l.top at (spawn q b) k b body refl) in
    goes_to job l w (bind at (spawn q b) k) s (spawned l q b k s.below) Spawn (Some (child_of l (prio_of l.top.prios q))) (after_spawn l q)
    (ap (λ t. if t then Some (spawned l q b k s.below) else fault_step (in_phase l (Run (opened_at l.top (bind at (spawn q b) k)) s.below)) Depth) room)
    refl
    (running_opens job.program (after_spawn l q) (opened_at (bound_in l.top (next_child l q)) k) s.below mode next s.below_are)
    (ap (λ o. Some (option_map (in_phase (child_of l (prio_of l.top.prios q))) (option_map Fresh o))) entered) refl

-- it enters a frame, and the old one waits behind its action
pub enters : (job : Job) (l : LocalFields) (w : Option Outcome') (at : ℕ) (a : Act) (k : Body) (s : Stands job l (bind at a k)) (f : FrameFields) (c : Body) → l.mode ≡ running → body_at job.program l.top ≡ Some (bind at a k) → body_at job.program f ≡ Some c →
    run_code job (in_phase l (Run (opened_at l.top (bind at a k)) s.below)) (opened_at l.top (bind at a k)) s.below (bind at a k) w
    ≡ Some (record { event = Plain; next = in_phase l (Run (opened_at f c) (opened_at l.top k ∷ s.below)); child = None }) →
    Goes job l w Plain None (record l { top = f; below = l.below ++ past l.top ∷ [] })
enters job l w at a k s f c mode body inner runs =
    let waits = frame_opens job.program (past l.top) k (body_past job.program l.top at a k l.top.scope body) in
    goes_to job l w (bind at a k) s _ Plain None (record l { top = f; below = l.below ++ past l.top ∷ [] }) runs refl
    (running_opens job.program (record l { top = f; below = l.below ++ past l.top ∷ [] }) (opened_at f c) (opened_at l.top k ∷ s.below) mode (frame_opens job.program f c inner) (frames_push job.program l.below (past l.top) s.below (opened_at l.top k) s.below_are waits)) refl tt

-- a block within
pub runs_block : (job : Job) (l : LocalFields) (w : Option Outcome') (at : ℕ) (b : Code) (k : Body) (s : Stands job l (bind at (do_block b) k)) → l.mode ≡ running → body_at job.program l.top ≡ Some (bind at (do_block b) k) →
    Goes job l w Plain None (record l { top = within_frame l.top (At l.top.done); below = l.below ++ past l.top ∷ [] })
runs_block job l w at b k s mode body =
    enters job l w at (do_block b) k s (within_frame l.top (At l.top.done)) (inside b) mode body (body_within job.program l.top at (do_block b) k b body refl) refl

-- a procedure
pub calls : (job : Job) (l : LocalFields) (w : Option Outcome') (at g : ℕ) (ps : List Prio) (es : List Term) (k : Body) (s : Stands job l (bind at (call g ps es) k)) (r : Routine) (vs : List Value') → l.mode ≡ running →
    body_at job.program l.top ≡ Some (bind at (call g ps es) k) → slice_get job.program.procs g ≡ Some r → results_of l.top.scope es ≡ Some (AllGave vs) →
    Goes job l w Plain None (record l { top = called_frame g vs (map (prio_of l.top.prios) ps); below = l.below ++ past l.top ∷ [] })
calls job l w at g ps es k s r vs mode body routine values =
    let st = in_phase l (Run (opened_at l.top (bind at (call g ps es) k)) s.below) in
    let t = opened_at l.top (bind at (call g ps es) k) in
    enters job l w at (call g ps es) k s (called_frame g vs (map (prio_of l.top.prios) ps)) (inside r.body) mode body (body_called job.program g r vs (map (prio_of l.top.prios) ps) routine)
    (ap (λ o. with_results st o (call_step st t s.below k (slice_get job.program.procs g) ps)) values ∙ ap (λ o. call_step st t s.below k o ps vs) routine)

-- its branch of an ending
pub branches : (job : Job) (l : LocalFields) (w : Option Outcome') (c d : Body) (s : Stands job l c) (f : FrameFields) → l.mode ≡ running → body_at job.program f ≡ Some d →
    run_code job (in_phase l (Run (opened_at l.top c) s.below)) (opened_at l.top c) s.below c w ≡ Some (record { event = Plain; next = in_phase l (Run (opened_at f d) s.below); child = None }) → Goes job l w Plain None (record l { top = f })
branches job l w c d s f mode inner runs =
    goes_to job l w c s _ Plain None (record l { top = f }) runs refl (running_opens job.program (record l { top = f }) (opened_at f d) s.below mode (frame_opens job.program f d inner) s.below_are) refl tt

-- the value goes to the frame below
pub leaves : (job : Job) (l : LocalFields) (w : Option Outcome') (at : ℕ) (e : Term) (s : Stands job l (ret_tail at e)) (fs : List FrameFields) (f : FrameFields) (v : Value') → l.mode ≡ running → l.below ≡ fs ++ f ∷ [] → result_of l.top.scope e ≡ Some (returned v) →
    Goes job l w Plain None (record l { top = record f { scope = f.scope ++ v ∷ [] }; below = fs })
leaves job l w at e s fs f v mode below gives =
    let i = frames_pop job.program fs f s.below (ap (frames_of job.program) (sym below) ∙ s.below_are) in
    let outer = frame_is job.program f i.frame i.opens in
    let next : frame_of job.program (record f { scope = f.scope ++ v ∷ [] }) ≡ Some (bound i.frame i.frame.code v) = frame_opens job.program (record f { scope = f.scope ++ v ∷ [] }) i.frame.code outer.0 ∙ ap (λ (t : Frame). Some (bound t i.frame.code v)) outer.1 in
    let t = opened_at l.top (ret_tail at e) in
    goes_to job l w (ret_tail at e) s (record { event = Plain; next = in_phase l (Run (bound i.frame i.frame.code v) i.others); child = None }) Plain None (record l { top = record f { scope = f.scope ++ v ∷ [] }; below = fs })
    (ap (λ o. with_result (in_phase l (Run t s.below)) o (back_to (in_phase l (Run t s.below)) s.below)) gives ∙ ap (λ gs. back_to (in_phase l (Run t gs)) gs v) i.are)
    refl (running_opens job.program (record l { top = record f { scope = f.scope ++ v ∷ [] }; below = fs }) (bound i.frame i.frame.code v) i.others mode next i.rest) refl tt

-- a thread that has not started enters its block
pub starts : (job : Job) (l : LocalFields) (w : Option Outcome') → CanStep job l w → l.mode ≡ fresh → Goes job l w Start None (record l { mode = running })
starts job l w can mode = go (frame_of job.program l.top) l.below refl refl (sym (ap (λ m. option_map (in_phase l) (phase_of job.program l m)) mode) ∙ can.2)
  where
    go : (o : Option Frame) (fs : List FrameFields) → frame_of job.program l.top ≡ o → l.below ≡ fs → option_map (in_phase l) (fresh_phase o fs) ≡ Some can.0 → Goes job l w Start None (record l { mode = running })
    go None [] q r k = absurd (cc)
    go o (f ∷ fs) q r k = absurd (cc)
    go (Some t) [] q r k =
        record {
          old = in_phase l (Fresh t);
          move = record { event = Start; next = in_phase l (Run t []); child = None };
          opens = ap (λ m. option_map (in_phase l) (phase_of job.program l m)) mode ∙ (ap (λ x. option_map (in_phase l) (fresh_phase x l.below)) q ∙ ap (λ fs. option_map (in_phase l) (fresh_phase (Some t) fs)) r);
          steps = refl;
          event = refl;
          next = running_opens job.program (record l { mode = running }) t [] refl q (ap (frames_of job.program) r);
          born = refl;
          new = tt;
        }

-- a failing thread ends with its fault
pub fails : (job : Job) (l : LocalFields) (w : Option Outcome') (k : FaultKind) → l.mode ≡ failing k → Goes job l w End None (record l { mode = ended (faulted k) })
fails job l w k mode =
    record {
      old = in_phase l (Failing k);
      move = record { event = End; next = in_phase l (Ended (faulted k)); child = None };
      opens = ap (λ m. option_map (in_phase l) (phase_of job.program l m)) mode;
      steps = refl;
      event = refl;
      next = refl;
      born = refl;
      new = tt;
    }

-- no step is stuck that is known to be made
pub not_stuck : (job : Job) (l : LocalFields) (w : Option Outcome') (c : Body) → CanStep job l w → l.mode ≡ running → body_at job.program l.top ≡ Some c →
    ((fs : List Frame) → run_code job (in_phase l (Run (opened_at l.top c) fs)) (opened_at l.top c) fs c w ≡ None) → ⊥
not_stuck job l w c can mode body none =
    let s = stands job l w c can mode body in
    let same : in_phase l (Run (opened_at l.top c) s.below) ≡ can.0 = same_Some (in_phase l (Run (opened_at l.top c) s.below)) can.0 (sym s.opens ∙ can.2) in
    let clash : ◌≡◌ {A = Option Moved} None (Some can.1) = sym (none s.below) ∙ (ap (λ x. step job x w) same ∙ can.3) in
    absurd (cc)

-- an ended thread makes no step
pub not_ended : (job : Job) (l : LocalFields) (w : Option Outcome') (o : Outcome') → CanStep job l w → l.mode ≡ ended o → ⊥
not_ended job l w o can mode =
    let same : in_phase l (Ended o) ≡ can.0 = same_Some (in_phase l (Ended o)) can.0 (sym (ap (λ m. option_map (in_phase l) (phase_of job.program l m)) mode) ∙ can.2) in
    let clash : ◌≡◌ {A = Option Moved} None (Some can.1) = ap (λ x. step job x w) same ∙ can.3 in
    absurd (cc)
