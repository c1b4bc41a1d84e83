-- The local state of a thread, its steps, and the states that a job determines.
use Rattle.std.specs.Prelude.{◌≡◌, ℕ, ◌+◌, true, false, ◌&&◌, nat_lt, if◌then◌else◌, ℤ, List, [], ◌∷◌, ◌++◌, Option, Some, None, slice_get, slice_index, map, length}
use Rattle.priml_syntax.specs.Tree.{Code, Body, bind, ret_tail, if_tail, case_tail, Act, ret, spawn, sync, call, do_block, input, output, inside, Routine, Tree}
use Rattle.priml_syntax.specs.Values.{Value', unit_value, bool_value, int_value, left_value, right_value, thread_value, Outcome', returned, faulted}
use Rattle.priml_syntax.specs.declared.value.FaultKind.{FaultKind}
use Rattle.priml_syntax.specs.declared.value.FaultKind.TheVariants.{Depth}
use Rattle.priml_syntax.specs.declared.event.Event.{Event}
use Rattle.priml_syntax.specs.declared.event.Event.TheVariants.{Start, Plain, Spawn, Join, Read, Wrote, End}
use Rattle.priml_syntax.specs.declared.prio.Prio.{Prio}
use Rattle.priml_syntax.specs.declared.prio.Prio.TheVariants.{Const, Var}
use Rattle.priml_syntax.specs.Limits.{most_parts, most_children}
use Rattle.priml_syntax.specs.Paths.{child_path}
use Rattle.core_steps.specs.Expressions.{result_of, Results, AllGave, OneFault, results_of}
use Rattle.priml_syntax.specs.Inputs.{inputs_of}

-- a program, and what its threads read
pub record Job : Type 0 where
  pub program : Tree
  pub inputs : List (List ℕ × List ℤ)

-- what is left to run in a block or a procedure, its values in scope, and what its priority variables stand for
pub record Frame : Type 0 where
  pub code : Body
  pub scope : List Value'
  pub prios : List ℕ

pub data Phase : Type 0 where
  Fresh : (top : Frame) → Phase
  Run : (top : Frame) → (below : List Frame) → Phase
  Failing : (f : FaultKind) → Phase
  Ended : (o : Outcome') → Phase

pub record State : Type 0 where
  pub path : List ℕ
  pub prio : ℕ
  pub reads : ℕ
  pub children : ℕ
  pub phase : Phase

pub record Moved : Type 0 where
  pub event : Event
  pub next : State
  pub child : Option State

abbrev pub prio_of : List ℕ → Prio → ℕ
prio_of ps (Const p) = p
prio_of ps (Var x) = slice_index ps x

-- the thread that a value names
abbrev pub thread_in : Option Value' → Option (List ℕ)
thread_in (Some (thread_value p q)) = Some p
thread_in v = None

abbrev pub go : State → Event → Phase → Option Moved
go s e f = Some (record { event = e; next = record s { phase = f }; child = None })

abbrev pub fault_step : State → FaultKind → Option Moved
fault_step s k = go s End (Ended (faulted k))

-- the frame after its next bind has got the value
abbrev pub bound : Frame → Body → Value' → Frame
bound t k v = record { code = k; scope = t.scope ++ v ∷ []; prios = t.prios }

abbrev pub with_result : State → Option Outcome' → (Value' → Option Moved) → Option Moved
with_result s None f = None
with_result s (Some (faulted k)) f = fault_step s k
with_result s (Some (returned v)) f = f v

abbrev pub with_results : State → Option Results → (List Value' → Option Moved) → Option Moved
with_results s None f = None
with_results s (Some (OneFault k)) f = fault_step s k
with_results s (Some (AllGave vs)) f = f vs

-- the value goes to the frame below, or ends the thread
abbrev pub back_to : State → List Frame → Value' → Option Moved
back_to s [] v = go s End (Ended (returned v))
back_to s (f ∷ fs) v = go s Plain (Run (bound f f.code v) fs)

-- code in the scope and with the priorities of a frame
abbrev pub with_code : Frame → Body → Frame
with_code t c = record { code = c; scope = t.scope; prios = t.prios }

-- a procedure's body, with these arguments, as code of a frame calls it
abbrev pub body_called_in : Frame → Routine → List Prio → List Value' → Frame
body_called_in t f ps vs = record { code = inside f.body; scope = vs; prios = map (prio_of t.prios) ps }

-- a thread that has not started
abbrev pub new_thread : List ℕ → ℕ → Frame → State
new_thread path prio t = record { path = path; prio = prio; reads = 0; children = 0; phase = Fresh t }

abbrev pub spawn_step : State → Frame → List Frame → Prio → Code → Body → Option Moved
spawn_step s t fs p b k =
    if nat_lt (length s.path) most_parts && nat_lt s.children most_children
    then Some (record {
      event = Spawn;
      next = record s { children = s.children + 1; phase = Run (bound t k (thread_value (child_path s.path s.children) (prio_of t.prios p))) fs };
      child = Some (new_thread (child_path s.path s.children) (prio_of t.prios p) (with_code t (inside b)));
    })
    else fault_step s Depth

abbrev pub join_step : State → Frame → List Frame → Body → List ℕ → Option Outcome' → Option Moved
join_step s t fs k b None = None
join_step s t fs k b (Some (returned v)) = go s (Join b) (Run (bound t k v) fs)
join_step s t fs k b (Some (faulted f)) = go s (Join b) (Failing f)

abbrev pub sync_step : State → Frame → List Frame → Body → Option (List ℕ) → Option Outcome' → Option Moved
sync_step s t fs k None w = None
sync_step s t fs k (Some b) w = join_step s t fs k b w

abbrev pub call_step : State → Frame → List Frame → Body → Option Routine → List Prio → List Value' → Option Moved
call_step s t fs k None ps vs = None
call_step s t fs k (Some f) ps vs = go s Plain (Run (body_called_in t f ps vs) (with_code t k ∷ fs))

abbrev pub read_step : State → Frame → List Frame → Body → Option ℤ → Option Moved
read_step s t fs k None = go s Read (Run (bound t k (left_value unit_value)) fs)
read_step s t fs k (Some z) =
    Some (record { event = Read; next = record s { reads = s.reads + 1; phase = Run (bound t k (right_value (int_value z))) fs }; child = None })

abbrev pub output_step : State → Frame → List Frame → Body → Value' → Option Moved
output_step s t fs k (int_value z) = go s (Wrote z) (Run (bound t k unit_value) fs)
output_step s t fs k v = None

abbrev pub act : Job → State → Frame → List Frame → Act → Body → Option Outcome' → Option Moved
act job s t fs (ret e) k w = with_result s (result_of t.scope e) (λ v. go s Plain (Run (bound t k v) fs))
act job s t fs (spawn p b) k w = spawn_step s t fs p b k
act job s t fs (sync x) k w = sync_step s t fs k (thread_in (slice_get t.scope x)) w
act job s t fs (call f ps es) k w = with_results s (results_of t.scope es) (call_step s t fs k (slice_get job.program.procs f) ps)
act job s t fs (do_block b) k w = go s Plain (Run (with_code t (inside b)) (with_code t k ∷ fs))
act job s t fs input k w = read_step s t fs k (slice_get (inputs_of job.inputs s.path) s.reads)
act job s t fs (output e) k w = with_result s (result_of t.scope e) (output_step s t fs k)

abbrev pub if_step : State → Frame → List Frame → Code → Code → Value' → Option Moved
if_step s t fs a b (bool_value true) = go s Plain (Run (record t { code = inside a }) fs)
if_step s t fs a b (bool_value false) = go s Plain (Run (record t { code = inside b }) fs)
if_step s t fs a b v = None

abbrev pub case_step : State → Frame → List Frame → Code → Code → Value' → Option Moved
case_step s t fs a b (left_value v) = go s Plain (Run (bound t (inside a) v) fs)
case_step s t fs a b (right_value v) = go s Plain (Run (bound t (inside b) v) fs)
case_step s t fs a b v = None

abbrev pub run_code : Job → State → Frame → List Frame → Body → Option Outcome' → Option Moved
run_code job s t fs (bind at a k) w = act job s t fs a k w
run_code job s t fs (ret_tail at e) w = with_result s (result_of t.scope e) (back_to s fs)
run_code job s t fs (if_tail at e a b) w = with_result s (result_of t.scope e) (if_step s t fs a b)
run_code job s t fs (case_tail at e a b) w = with_result s (result_of t.scope e) (case_step s t fs a b)

abbrev pub phase_step : Job → State → Phase → Option Outcome' → Option Moved
phase_step job s (Fresh t) w = go s Start (Run t [])
phase_step job s (Run t fs) w = run_code job s t fs t.code w
phase_step job s (Failing k) w = fault_step s k
phase_step job s (Ended o) w = None

-- one step of a thread, one case for each row of the table of steps; w is the awaited outcome where there is one
abbrev pub step : Job → State → Option Outcome' → Option Moved
step job s w = phase_step job s s.phase w

abbrev pub awaits_action : Frame → Act → Option (List ℕ)
awaits_action t (sync x) = thread_in (slice_get t.scope x)
awaits_action t a = None

abbrev pub awaits_code : Frame → Body → Option (List ℕ)
awaits_code t (bind at a k) = awaits_action t a
awaits_code t k = None

abbrev pub awaits_phase : Phase → Option (List ℕ)
awaits_phase (Run t fs) = awaits_code t t.code
awaits_phase f = None

-- the thread whose outcome the next step takes
abbrev pub awaits : State → Option (List ℕ)
awaits s = awaits_phase s.phase

abbrev pub outcome_in : Phase → Option Outcome'
outcome_in (Ended o) = Some o
outcome_in f = None

-- a root, not started
abbrev pub root_state : Routine → ℕ → State
root_state m k = new_thread (k ∷ []) (prio_of [] m.declares.own) (record { code = inside m.body; scope = []; prios = [] })

-- the state of a thread after these events: the least such relation
pub data Ran (job : Job) : List ℕ → List Event → State → Type 0 where
  root : {p : List ℕ} {es : List Event} {s : State} {k : ℕ} {m : Routine} →
      slice_get job.program.mains k ≡ Some m → p ≡ k ∷ [] → es ≡ [] → s ≡ root_state m k → Ran job p es s
  born : {p q : List ℕ} {es fs : List Event} {s t c : State} {m : Moved} →
      Ran job q fs t → awaits t ≡ None → step job t None ≡ Some m → m.child ≡ Some c → p ≡ c.path → es ≡ [] → s ≡ c → Ran job p es s
  alone : {p : List ℕ} {es fs : List Event} {s t : State} {m : Moved} →
      Ran job p fs t → awaits t ≡ None → step job t None ≡ Some m → es ≡ fs ++ m.event ∷ [] → s ≡ m.next → Ran job p es s
  joined : {p b : List ℕ} {es fs gs : List Event} {s t u : State} {o : Outcome'} {m : Moved} →
      Ran job p fs t → Ran job b gs u → awaits t ≡ Some b → u.phase ≡ Ended o → step job t (Some o) ≡ Some m →
      es ≡ fs ++ m.event ∷ [] → s ≡ m.next → Ran job p es s
