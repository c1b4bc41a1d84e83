-- A thread whose step is a Spawn has room for the child.
use Rattle.std.proofs.Common.{◌≡◌, ℕ, ◌<◌, List, [], ◌∷◌, Option, Some, None, length, inl, inr, refl, sym, ◌∙◌, Bool, true, false, if◌then◌else◌}
use Rattle.std.proofs.lemmas.Bool.{cases_lt, le-ltb}
use Rattle.std.specs.Prelude.{slice_get, nat_lt, ℤ, ◌&&◌}
use Rattle.priml_syntax.specs.declared.event.Event.{Event}
use Rattle.priml_syntax.specs.declared.event.Event.TheVariants.{Spawn}
use Rattle.priml_syntax.specs.declared.prio.Prio.{Prio}
use Rattle.priml_syntax.specs.declared.value.FaultKind.TheVariants.{Depth}
use Rattle.priml_syntax.specs.Tree.{Code, Body, bind, ret_tail, if_tail, case_tail, Act, ret, spawn, sync, call, do_block, input, output, Routine}
use Rattle.priml_syntax.specs.Values.{Value', bool_value, int_value, left_value, right_value, Outcome', returned, faulted}
use Rattle.priml_syntax.specs.Inputs.{inputs_of}
use Rattle.core_steps.specs.Expressions.{result_of, results_of, Results, AllGave, OneFault}
use Rattle.core_steps.specs.Steps as steps
use Rattle.core_steps.specs.Steps.{Job, Frame, Phase, Fresh, Run, Failing, Ended, State, Moved, step, phase_step, run_code, act, thread_in}
use Rattle.core_steps.proofs.StepFacts.{spawned}

-- there is room for a child where the event is a Spawn
abbrev Room : State → Event → Type 0
Room s Spawn = nat_lt (length s.path) 32 && nat_lt s.children 4294967295 ≡ true
Room s e = Unit {0}

abbrev OnMoved : State → Option Moved → Type 0
OnMoved s None = Unit {0}
OnMoved s (Some m) = Room s m.event

result_room : (s : State) (o : Option Outcome') (f : Value' → Option Moved) → ((v : Value') → OnMoved s (f v)) → OnMoved s (steps.with_result s o f)
result_room s None f h = tt
result_room s (Some (faulted k)) f h = tt
result_room s (Some (returned v)) f h = h v

results_room : (s : State) (o : Option Results) (f : List Value' → Option Moved) → ((vs : List Value') → OnMoved s (f vs)) → OnMoved s (steps.with_results s o f)
results_room s None f h = tt
results_room s (Some (OneFault k)) f h = tt
results_room s (Some (AllGave vs)) f h = h vs

spawn_room : (s : State) (t : Frame) (fs : List Frame) (p : Prio) (b : Code) (k : Body) → OnMoved s (steps.spawn_step s t fs p b k)
spawn_room s t fs p b k = go (nat_lt (length s.path) 32 && nat_lt s.children 4294967295) refl
  where
    go : (c : Bool) → nat_lt (length s.path) 32 && nat_lt s.children 4294967295 ≡ c → OnMoved s (if c then Some (spawned s t fs p b k) else steps.fault_step s Depth)
    go true e = e
    go false e = tt

sync_room : (s : State) (t : Frame) (fs : List Frame) (k : Body) (b : Option (List ℕ)) (w : Option Outcome') → OnMoved s (steps.sync_step s t fs k b w)
sync_room s t fs k None w = tt
sync_room s t fs k (Some b) None = tt
sync_room s t fs k (Some b) (Some (returned v)) = tt
sync_room s t fs k (Some b) (Some (faulted f)) = tt

call_room : (s : State) (t : Frame) (fs : List Frame) (k : Body) (f : Option Routine) (ps : List Prio) (vs : List Value') → OnMoved s (steps.call_step s t fs k f ps vs)
call_room s t fs k None ps vs = tt
call_room s t fs k (Some f) ps vs = tt

read_room : (s : State) (t : Frame) (fs : List Frame) (k : Body) (o : Option ℤ) → OnMoved s (steps.read_step s t fs k o)
read_room s t fs k None = tt
read_room s t fs k (Some z) = tt

output_room : (s : State) (t : Frame) (fs : List Frame) (k : Body) (v : Value') → OnMoved s (steps.output_step s t fs k v)
output_room s t fs k (int_value z) = tt
output_room s t fs k v = tt

if_room : (s : State) (t : Frame) (fs : List Frame) (a b : Code) (v : Value') → OnMoved s (steps.if_step s t fs a b v)
if_room s t fs a b (bool_value true) = tt
if_room s t fs a b (bool_value false) = tt
if_room s t fs a b v = tt

case_room : (s : State) (t : Frame) (fs : List Frame) (a b : Code) (v : Value') → OnMoved s (steps.case_step s t fs a b v)
case_room s t fs a b (left_value x) = tt
case_room s t fs a b (right_value x) = tt
case_room s t fs a b v = tt

back_room : (s : State) (fs : List Frame) (v : Value') → OnMoved s (steps.back_to s fs v)
back_room s [] v = tt
back_room s (f ∷ fs) v = tt

act_room : (job : Job) (s : State) (t : Frame) (fs : List Frame) (a : Act) (k : Body) (w : Option Outcome') → OnMoved s (act job s t fs a k w)
act_room job s t fs (ret e) k w = result_room s (result_of t.scope e) _ (λ v. tt)
act_room job s t fs (spawn p b) k w = spawn_room s t fs p b k
act_room job s t fs (sync x) k w = sync_room s t fs k (thread_in (slice_get t.scope x)) w
act_room job s t fs (call f ps es) k w = results_room s (results_of t.scope es) _ (λ vs. call_room s t fs k (slice_get job.program.procs f) ps vs)
act_room job s t fs (do_block b) k w = tt
act_room job s t fs input k w = read_room s t fs k (slice_get (inputs_of job.inputs s.path) s.reads)
act_room job s t fs (output e) k w = result_room s (result_of t.scope e) _ (λ v. output_room s t fs k v)

code_room : (job : Job) (s : State) (t : Frame) (fs : List Frame) (c : Body) (w : Option Outcome') → OnMoved s (run_code job s t fs c w)
code_room job s t fs (bind at a k) w = act_room job s t fs a k w
code_room job s t fs (ret_tail at e) w = result_room s (result_of t.scope e) _ (λ v. back_room s fs v)
code_room job s t fs (if_tail at e a b) w = result_room s (result_of t.scope e) _ (λ v. if_room s t fs a b v)
code_room job s t fs (case_tail at e a b) w = result_room s (result_of t.scope e) _ (λ v. case_room s t fs a b v)

phase_room : (job : Job) (s : State) (f : Phase) (w : Option Outcome') → OnMoved s (phase_step job s f w)
phase_room job s (Fresh t) w = tt
phase_room job s (Run t fs) w = code_room job s t fs t.code w
phase_room job s (Failing k) w = tt
phase_room job s (Ended o) w = tt

below : (a b : ℕ) → nat_lt a b ≡ true → a < b
below a b e = elim (cases_lt a b) [
  | inl l ↦ l
  | inr l ↦ (let z : true ≡ false = sym e ∙ le-ltb a b l in absurd (let y : ⊥ = cc in y))
]

pub spawn_has_room : (job : Job) (s : State) (w : Option Outcome') (m : Moved) → step job s w ≡ Some m → m.event ≡ Spawn → (length s.path < 32) × (s.children < 4294967295)
spawn_has_room job s w m e is =
    let x : Room s m.event = (let z : OnMoved s (step job s w) = phase_room job s s.phase w in rw e at z) in
    let y : Room s Spawn = (rw is at x) in
    both (nat_lt (length s.path) 32) (nat_lt s.children 4294967295) refl refl y
  where
    both : (a b : Bool) → nat_lt (length s.path) 32 ≡ a → nat_lt s.children 4294967295 ≡ b → a && b ≡ true → (length s.path < 32) × (s.children < 4294967295)
    both true true f g h = (below (length s.path) 32 f, below s.children 4294967295 g)
    both true false f g h = absurd (cc)
    both false b f g h = absurd (cc)
