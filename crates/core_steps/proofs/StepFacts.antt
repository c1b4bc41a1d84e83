-- What each step keeps and tells; where no thread is awaited the outcome that is handed in plays no part, and where one is there is a step with each outcome.
use Rattle.std.proofs.Common.{◌≡◌, ℕ, ◌+◌, List, [], ◌∷◌, Option, Some, None, length, ◌⊎◌, inl, inr, refl, sym, ◌∙◌, ap, arith, Bool, true, false, if◌then◌else◌}
use Rattle.std.specs.Prelude.{slice_get, nat_lt, ℤ, ◌&&◌}
use Rattle.std.proofs.lemmas.Option.{same_Some, none-some}
use Rattle.priml_syntax.specs.declared.event.Event.{Event}
use Rattle.priml_syntax.specs.declared.event.Event.TheVariants.{Start, Plain, Spawn, Join, Read, Wrote, End}
use Rattle.priml_syntax.specs.declared.prio.Prio.{Prio}
use Rattle.priml_syntax.specs.declared.value.FaultKind.TheVariants.{Depth}
use Rattle.priml_syntax.specs.Tree.{Code, Body, bind, ret_tail, if_tail, case_tail, Act, ret, spawn, sync, call, do_block, input, output, inside, Routine}
use Rattle.priml_syntax.specs.Values.{Value', bool_value, int_value, left_value, right_value, thread_value, Outcome', returned, faulted}
use Rattle.priml_syntax.specs.Paths.{child_path}
use Rattle.priml_syntax.specs.Events.{one_spawn, one_end}
use Rattle.priml_syntax.specs.Inputs.{inputs_of}
use Rattle.core_steps.specs.Expressions.{result_of, results_of, Results, AllGave, OneFault}
use Rattle.core_steps.specs.Steps as steps
use Rattle.core_steps.specs.Steps.{Job, Frame, Phase, Fresh, Run, Failing, Ended, State, Moved, step, phase_step, run_code, act, awaits, awaits_phase, awaits_code, awaits_action, outcome_in, prio_of, thread_in, bound}
use Rattle.core_steps.specs.Determined.{one_live}
use Rattle.core_steps.specs.Laws.{JoinsAwait}

-- the thread that the event joins
abbrev joined_by : Event → Option (List ℕ)
joined_by (Join b) = Some b
joined_by e = None

-- the child of a step from s with that event
pub record IsChild (s : State) (e : Event) (c : State) : Type 0 where
  pub event : e ≡ Spawn
  pub path : c.path ≡ child_path s.path s.children
  pub children : c.children ≡ 0
  pub live : outcome_in c.phase ≡ None

-- the child of a step stands exactly at a Spawn
abbrev pub ChildOf : State → Event → Option State → Type 0
ChildOf s e None = one_spawn e ≡ 0
ChildOf s e (Some c) = IsChild s e c

-- what a step tells from the state s, which awaits that thread or none: what it keeps, its child, which thread it joins, and whether it ends the thread
pub record Facts (s : State) (awaited : Option (List ℕ)) (m : Moved) : Type 0 where
  pub path : m.next.path ≡ s.path
  pub prio : m.next.prio ≡ s.prio
  pub children : m.next.children ≡ s.children + one_spawn m.event
  pub child : ChildOf s m.event m.child
  pub joins : joined_by m.event ≡ awaited
  pub ends : one_live (outcome_in m.next.phase) + one_end m.event ≡ 1

abbrev OnMoved : State → Option (List ℕ) → Option Moved → Type 0
OnMoved s a None = Unit {0}
OnMoved s a (Some m) = Facts s a m

plain_facts : (s : State) (a : Option (List ℕ)) (e : Event) (f : Phase) → one_spawn e ≡ 0 → joined_by e ≡ a → one_live (outcome_in f) + one_end e ≡ 1 → OnMoved s a (steps.go s e f)
plain_facts s a e f z j x = record { path = refl; prio = refl; children = rw z (omega arith); child = z; joins = j; ends = x }

result_facts : (s : State) (o : Option Outcome') (f : Value' → Option Moved) → ((v : Value') → OnMoved s None (f v)) → OnMoved s None (steps.with_result s o f)
result_facts s None f h = tt
result_facts s (Some (faulted k)) f h = plain_facts s None End _ refl refl refl
result_facts s (Some (returned v)) f h = h v

results_facts : (s : State) (o : Option Results) (f : List Value' → Option Moved) → ((vs : List Value') → OnMoved s None (f vs)) → OnMoved s None (steps.with_results s o f)
results_facts s None f h = tt
results_facts s (Some (OneFault k)) f h = plain_facts s None End _ refl refl refl
results_facts s (Some (AllGave vs)) f h = h vs

sync_facts : (s : State) (t : Frame) (fs : List Frame) (k : Body) (b : Option (List ℕ)) (w : Option Outcome') → OnMoved s b (steps.sync_step s t fs k b w)
sync_facts s t fs k None w = tt
sync_facts s t fs k (Some b) None = tt
sync_facts s t fs k (Some b) (Some (returned v)) = plain_facts s (Some b) (Join b) _ refl refl refl
sync_facts s t fs k (Some b) (Some (faulted f)) = plain_facts s (Some b) (Join b) _ refl refl refl

call_facts : (s : State) (t : Frame) (fs : List Frame) (k : Body) (f : Option Routine) (ps : List Prio) (vs : List Value') → OnMoved s None (steps.call_step s t fs k f ps vs)
call_facts s t fs k None ps vs = tt
call_facts s t fs k (Some f) ps vs = plain_facts s None Plain _ refl refl refl

read_facts : (s : State) (t : Frame) (fs : List Frame) (k : Body) (o : Option ℤ) → OnMoved s None (steps.read_step s t fs k o)
read_facts s t fs k None = plain_facts s None Read _ refl refl refl
read_facts s t fs k (Some z) = record { path = refl; prio = refl; children = omega arith; child = refl; joins = refl; ends = refl }

output_facts : (s : State) (t : Frame) (fs : List Frame) (k : Body) (v : Value') → OnMoved s None (steps.output_step s t fs k v)
output_facts s t fs k (int_value z) = plain_facts s None (Wrote z) _ refl refl refl
output_facts s t fs k v = tt

if_facts : (s : State) (t : Frame) (fs : List Frame) (a b : Code) (v : Value') → OnMoved s None (steps.if_step s t fs a b v)
if_facts s t fs a b (bool_value true) = plain_facts s None Plain _ refl refl refl
if_facts s t fs a b (bool_value false) = plain_facts s None Plain _ refl refl refl
if_facts s t fs a b v = tt

case_facts : (s : State) (t : Frame) (fs : List Frame) (a b : Code) (v : Value') → OnMoved s None (steps.case_step s t fs a b v)
case_facts s t fs a b (left_value x) = plain_facts s None Plain _ refl refl refl
case_facts s t fs a b (right_value x) = plain_facts s None Plain _ refl refl refl
case_facts s t fs a b v = tt

back_facts : (s : State) (fs : List Frame) (v : Value') → OnMoved s None (steps.back_to s fs v)
back_facts s [] v = plain_facts s None End _ refl refl refl
back_facts s (f ∷ fs) v = plain_facts s None Plain _ refl refl refl

-- the child of a spawn, and the whole step
abbrev pub spawned_child : State → Frame → Prio → Code → State
spawned_child s t p b = record { path = child_path s.path s.children; prio = prio_of t.prios p; reads = 0; children = 0; phase = Fresh (record { code = inside b; scope = t.scope; prios = t.prios }) }

abbrev pub spawned : State → Frame → List Frame → Prio → Code → Body → Moved
spawned s t fs p b k =
    record {
      event = Spawn;
      next = record s { children = s.children + 1; phase = Run (bound t k (thread_value (child_path s.path s.children) (prio_of t.prios p))) fs };
      child = Some (spawned_child s t p b);
    }

spawn_facts : (s : State) (t : Frame) (fs : List Frame) (p : Prio) (b : Code) (k : Body) → OnMoved s None (steps.spawn_step s t fs p b k)
spawn_facts s t fs p b k = go (nat_lt (length s.path) 32 && nat_lt s.children 4294967295)
  where
    go : (c : Bool) → OnMoved s None (if c then Some (spawned s t fs p b k) else steps.fault_step s Depth)
    go true = record { path = refl; prio = refl; children = refl; child = record { event = refl; path = refl; children = refl; live = refl }; joins = refl; ends = refl }
    go false = plain_facts s None End _ refl refl refl

act_facts : (job : Job) (s : State) (t : Frame) (fs : List Frame) (a : Act) (k : Body) (w : Option Outcome') → OnMoved s (awaits_action t a) (act job s t fs a k w)
act_facts job s t fs (ret e) k w = result_facts s (result_of t.scope e) _ (λ v. plain_facts s None Plain _ refl refl refl)
act_facts job s t fs (spawn p b) k w = spawn_facts s t fs p b k
act_facts job s t fs (sync x) k w = sync_facts s t fs k (thread_in (slice_get t.scope x)) w
act_facts job s t fs (call f ps es) k w = results_facts s (results_of t.scope es) _ (λ vs. call_facts s t fs k _ ps vs)
act_facts job s t fs (do_block b) k w = plain_facts s None Plain _ refl refl refl
act_facts job s t fs input k w = read_facts s t fs k (slice_get (inputs_of job.inputs s.path) s.reads)
act_facts job s t fs (output e) k w = result_facts s (result_of t.scope e) _ (λ v. output_facts s t fs k v)

code_facts : (job : Job) (s : State) (t : Frame) (fs : List Frame) (c : Body) (w : Option Outcome') → OnMoved s (awaits_code t c) (run_code job s t fs c w)
code_facts job s t fs (bind at a k) w = act_facts job s t fs a k w
code_facts job s t fs (ret_tail at e) w = result_facts s (result_of t.scope e) _ (λ v. back_facts s fs v)
code_facts job s t fs (if_tail at e a b) w = result_facts s (result_of t.scope e) _ (λ v. if_facts s t fs a b v)
code_facts job s t fs (case_tail at e a b) w = result_facts s (result_of t.scope e) _ (λ v. case_facts s t fs a b v)

phase_facts : (job : Job) (s : State) (f : Phase) (w : Option Outcome') → OnMoved s (awaits_phase f) (phase_step job s f w)
phase_facts job s (Fresh t) w = plain_facts s None Start _ refl refl refl
phase_facts job s (Run t fs) w = code_facts job s t fs t.code w
phase_facts job s (Failing k) w = plain_facts s None End _ refl refl refl
phase_facts job s (Ended o) w = tt

-- each step tells so
pub step_facts : (job : Job) (s : State) (w : Option Outcome') (m : Moved) → step job s w ≡ Some m → Facts s (awaits s) m
step_facts job s w m e = let x : OnMoved s (awaits s) (step job s w) = phase_facts job s s.phase w in rw e at x

-- and of its child
pub child_facts : (job : Job) (s : State) (w : Option Outcome') (m : Moved) (c : State) → step job s w ≡ Some m → m.child ≡ Some c → IsChild s m.event c
child_facts job s w m c e h = let x : ChildOf s m.event m.child = (step_facts job s w m e).child in rw h at x

-- a step from a state that awaits a thread is a Join of it
pub joins_awaited : (job : Job) (s : State) (w : Option Outcome') (m : Moved) (b : List ℕ) → awaits s ≡ Some b → step job s w ≡ Some m → m.event ≡ Join b
joins_awaited job s w m b a e = go m.event ((step_facts job s w m e).joins ∙ a)
  where
    go : (x : Event) → joined_by x ≡ Some b → x ≡ Join b
    go (Join c) h = ap Join (same_Some c b h)
    go x h = absurd (none-some b h)

-- and a step that is a Join of a thread is one from a state that awaits it
join_awaited : (job : Job) (s : State) (w : Option Outcome') (m : Moved) (b : List ℕ) → step job s w ≡ Some m → m.event ≡ Join b → awaits s ≡ Some b
join_awaited job s w m b e j = sym (step_facts job s w m e).joins ∙ ap joined_by j

pub joins_await : (job : Job) → JoinsAwait job
joins_await job = record { joins = joins_awaited job; others = λ s w m b a e j. none-some b (sym a ∙ join_awaited job s w m b e j) }

pub ended_phase : (f : Phase) (o : Outcome') → outcome_in f ≡ Some o → f ≡ Ended o
ended_phase (Ended x) o e = ap Ended (same_Some x o e)
ended_phase f o e = absurd (none-some o e)

-- a thread that has ended makes no step
pub ended_stops : (job : Job) (s : State) (o : Outcome') (w : Option Outcome') → outcome_in s.phase ≡ Some o → step job s w ≡ None
ended_stops job s o w e = ap (λ f. phase_step job s f w) (ended_phase s.phase o e)

-- each phase has ended, or has not
pub ended_or_live : (f : Phase) → ((o : Outcome') × (outcome_in f ≡ Some o)) ⊎ (outcome_in f ≡ None)
ended_or_live (Ended o) = inl (o, refl)
ended_or_live f = inr refl

-- so a thread that makes a step had not ended
pub live_before : (job : Job) (s : State) (w : Option Outcome') (m : Moved) → step job s w ≡ Some m → outcome_in s.phase ≡ None
live_before job s w m e = elim (ended_or_live s.phase) [ inl h ↦ absurd (none-some m (sym (ended_stops job s h.0 w h.1) ∙ e)) | inr h ↦ h ]

-- without an awaited thread the outcome that is handed in plays no part
free_sync : (s : State) (t : Frame) (fs : List Frame) (k : Body) (w : Option Outcome') (b : Option (List ℕ)) → b ≡ None → steps.sync_step s t fs k b w ≡ steps.sync_step s t fs k b None
free_sync s t fs k w b e = rw e refl

free_act : (job : Job) (s : State) (t : Frame) (fs : List Frame) (a : Act) (k : Body) (w : Option Outcome') → awaits_action t a ≡ None → act job s t fs a k w ≡ act job s t fs a k None
free_act job s t fs (sync x) k w h = free_sync s t fs k w (thread_in (slice_get t.scope x)) h
free_act job s t fs a k w h = refl

free_code : (job : Job) (s : State) (t : Frame) (fs : List Frame) (c : Body) (w : Option Outcome') → awaits_code t c ≡ None → run_code job s t fs c w ≡ run_code job s t fs c None
free_code job s t fs (bind at a k) w e = free_act job s t fs a k w e
free_code job s t fs c w e = refl

free_phase : (job : Job) (s : State) (f : Phase) (w : Option Outcome') → awaits_phase f ≡ None → phase_step job s f w ≡ phase_step job s f None
free_phase job s (Run t fs) w e = free_code job s t fs t.code w e
free_phase job s f w e = refl

pub free_step : (job : Job) (s : State) (w : Option Outcome') → awaits s ≡ None → step job s w ≡ step job s None
free_step job s w e = free_phase job s s.phase w e

-- there is a step
abbrev IsStep : Option Moved → Type 0
IsStep o = (m : Moved) × (o ≡ Some m)

-- where an awaited thread's outcome is handed in, there is a step
join_fed : (s : State) (t : Frame) (fs : List Frame) (k : Body) (b : List ℕ) (o : Outcome') → IsStep (steps.join_step s t fs k b (Some o))
join_fed s t fs k b (returned v) = (_, refl)
join_fed s t fs k b (faulted f) = (_, refl)

sync_fed : (s : State) (t : Frame) (fs : List Frame) (k : Body) (x : Option (List ℕ)) (b : List ℕ) (o : Outcome') → x ≡ Some b → IsStep (steps.sync_step s t fs k x (Some o))
sync_fed s t fs k x b o e = rw e (join_fed s t fs k b o)

act_fed : (job : Job) (s : State) (t : Frame) (fs : List Frame) (a : Act) (k : Body) (b : List ℕ) (o : Outcome') → awaits_action t a ≡ Some b → IsStep (act job s t fs a k (Some o))
act_fed job s t fs (sync x) k b o e = sync_fed s t fs k (thread_in (slice_get t.scope x)) b o e
act_fed job s t fs a k b o e = absurd (none-some b e)

code_fed : (job : Job) (s : State) (t : Frame) (fs : List Frame) (c : Body) (b : List ℕ) (o : Outcome') → awaits_code t c ≡ Some b → IsStep (run_code job s t fs c (Some o))
code_fed job s t fs (bind at a k) b o e = act_fed job s t fs a k b o e
code_fed job s t fs c b o e = absurd (none-some b e)

phase_fed : (job : Job) (s : State) (f : Phase) (b : List ℕ) (o : Outcome') → awaits_phase f ≡ Some b → IsStep (phase_step job s f (Some o))
phase_fed job s (Run t fs) b o e = code_fed job s t fs t.code b o e
phase_fed job s f b o e = absurd (none-some b e)

pub fed_step : (job : Job) (s : State) (b : List ℕ) (o : Outcome') → awaits s ≡ Some b → (m : Moved) × (step job s (Some o) ≡ Some m)
fed_step job s b o e = phase_fed job s s.phase b o e
