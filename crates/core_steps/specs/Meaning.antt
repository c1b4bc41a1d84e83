-- The serial meaning: a spawned thread is evaluated whole before its parent goes on.
use Rattle.std.specs.Prelude.{ℕ, zero, suc, ◌+◌, Bool, true, false, ◌&&◌, nat_lt, if◌then◌else◌, ℤ, List, [], ◌∷◌, ◌++◌, Option, Some, None, slice_get, map, length}
use Rattle.std.specs.Option.{option_and_then}
use Rattle.priml_syntax.specs.Tree.{Body, bind, ret_tail, if_tail, case_tail, ret, spawn, sync, call, do_block, input, output, inside, Routine}
use Rattle.priml_syntax.specs.Values.{Value', unit_value, bool_value, int_value, left_value, right_value, thread_value, Outcome', returned, faulted, Entry}
use Rattle.priml_syntax.specs.declared.value.FaultKind.TheVariants.{Depth}
use Rattle.priml_syntax.specs.declared.event.Event.{Event}
use Rattle.priml_syntax.specs.declared.event.Event.TheVariants.{Start, Plain, Spawn, Join, Read, Wrote, End}
use Rattle.priml_syntax.specs.Limits.{most_parts, most_children}
use Rattle.priml_syntax.specs.Paths.{child_path, same_path, path_lt}
use Rattle.core_steps.specs.Expressions.{result_of, Results, AllGave, OneFault, results_of}
use Rattle.priml_syntax.specs.Inputs.{inputs_of}
use Rattle.priml_syntax.specs.Records.{work}
use Rattle.core_steps.specs.Steps.{Job, prio_of, thread_in}

-- a record put at its place in the order of paths
abbrev pub placed : Entry → List Entry → List Entry
placed r [] = r ∷ []
placed r (x ∷ xs) = if path_lt r.path x.path then r ∷ x ∷ xs else x ∷ placed r xs

abbrev pub outcome_at : List Entry → List ℕ → Option Outcome'
outcome_at [] p = None
outcome_at (x ∷ xs) p = if same_path x.path p then Some x.outcome else outcome_at xs p

-- how far the thread is whose block is being evaluated
pub record Here : Type 0 where
  pub path : List ℕ
  pub prio : ℕ
  pub reads : ℕ
  pub children : ℕ
  pub events : List Event

-- a block gave this outcome, or the fuel ran out. A wrong kind counts as out too: no typable program meets one
pub data Answer : Type 0 where
  Out : Answer
  Back : (o : Outcome') → (h : Here) → (done : List Entry) → Answer

abbrev pub noted : Here → Event → Here
noted h e = record h { events = h.events ++ e ∷ [] }

abbrev pub with_value : Here → List Entry → Option Outcome' → (Value' → Answer) → Answer
with_value h done None f = Out
with_value h done (Some (faulted k)) f = Back (faulted k) h done
with_value h done (Some (returned v)) f = f v

abbrev pub with_values : Here → List Entry → Option Results → (List Value' → Answer) → Answer
with_values h done None f = Out
with_values h done (Some (OneFault k)) f = Back (faulted k) h done
with_values h done (Some (AllGave vs)) f = f vs

-- a thread that is entered
abbrev pub entered : List ℕ → ℕ → Here
entered p q = record { path = p; prio = q; reads = 0; children = 0; events = Start ∷ [] }

-- the records with that of a thread whose block has been evaluated
abbrev pub closing : Answer → Option (List Entry)
closing Out = None
closing (Back o h done) = Some (placed (record { path = h.path; prio = h.prio; events = h.events ++ End ∷ []; outcome = o }) done)

abbrev pub after_thread : Option (List Entry) → (List Entry → Answer) → Answer
after_thread None f = Out
after_thread (Some done) f = f done

-- a block within a thread gives its value to what follows
abbrev pub after_block : Answer → (Value' → Here → List Entry → Answer) → Answer
after_block Out f = Out
after_block (Back (faulted k) h done) f = Back (faulted k) h done
after_block (Back (returned v) h done) f = f v h done

abbrev pub after_sync : Here → List Entry → Option Outcome' → List ℕ → (Value' → Answer) → Answer
after_sync h done None b f = Out
after_sync h done (Some (faulted k)) b f = Back (faulted k) (noted h (Join b)) done
after_sync h done (Some (returned v)) b f = f v

abbrev pub synced : Here → List Entry → Option (List ℕ) → (List ℕ → Value' → Answer) → Answer
synced h done None f = Out
synced h done (Some b) f = after_sync h done (outcome_at done b) b (f b)

abbrev pub called : Option Routine → (Routine → Answer) → Answer
called None f = Out
called (Some p) f = f p

abbrev pub drawn : Option ℤ → (Value' → ℕ → Answer) → Answer
drawn None f = f (left_value unit_value) 0
drawn (Some z) f = f (right_value (int_value z)) 1

abbrev pub written : Value' → (ℤ → Answer) → Answer
written (int_value z) f = f z
written v f = Out

abbrev pub cased : Value' → (Value' → Answer) → (Value' → Answer) → Answer
cased (left_value v) f g = f v
cased (right_value v) f g = g v
cased v f g = Out

abbrev pub may_spawn : Here → Bool
may_spawn h = nat_lt (length h.path) most_parts && nat_lt h.children most_children

-- what a block gives: code, values in scope, priorities. The fuel bounds the events along each chain of evaluation
abbrev pub eval : Job → ℕ → Here → List Entry → Body → List Value' → List ℕ → Answer
eval job zero h done c scope ps = Out
eval job (suc d) h done (ret_tail at e) scope ps = with_value h done (result_of scope e) (λ v. Back (returned v) h done)
eval job (suc d) h done (if_tail at e a b) scope ps =
    with_value h done (result_of scope e) (λ v. elim v [
      | bool_value c ↦ elim c [ true ↦ eval job d (noted h Plain) done (inside a) scope ps | false ↦ eval job d (noted h Plain) done (inside b) scope ps ]
      | _ ↦ Out
    ])
eval job (suc d) h done (case_tail at e a b) scope ps =
    with_value h done (result_of scope e) (λ v. cased v
    (λ w. eval job d (noted h Plain) done (inside a) (scope ++ w ∷ []) ps)
    (λ w. eval job d (noted h Plain) done (inside b) (scope ++ w ∷ []) ps))
eval job (suc d) h done (bind at (ret e) k) scope ps =
    with_value h done (result_of scope e) (λ v. eval job d (noted h Plain) done k (scope ++ v ∷ []) ps)
eval job (suc d) h done (bind at (spawn p b) k) scope ps =
    elim (may_spawn h) [
      | true ↦
          after_thread (closing (eval job d (entered (child_path h.path h.children) (prio_of ps p)) done (inside b) scope ps))
          (λ done'. eval job d (record h { children = h.children + 1; events = h.events ++ Spawn ∷ [] }) done' k
          (scope ++ thread_value (child_path h.path h.children) (prio_of ps p) ∷ []) ps)
      | false ↦ Back (faulted Depth) h done
    ]
eval job (suc d) h done (bind at (sync x) k) scope ps =
    synced h done (thread_in (slice_get scope x)) (λ b v. eval job d (noted h (Join b)) done k (scope ++ v ∷ []) ps)
eval job (suc d) h done (bind at (call f qs es) k) scope ps =
    with_values h done (results_of scope es) (λ vs. called (slice_get job.program.procs f)
    (λ g. after_block (eval job d (noted h Plain) done (inside g.body) vs (map (prio_of ps) qs))
    (λ w h' done'. eval job d (noted h' Plain) done' k (scope ++ w ∷ []) ps)))
eval job (suc d) h done (bind at (do_block b) k) scope ps =
    after_block (eval job d (noted h Plain) done (inside b) scope ps) (λ w h' done'. eval job d (noted h' Plain) done' k (scope ++ w ∷ []) ps)
eval job (suc d) h done (bind at input k) scope ps =
    drawn (slice_get (inputs_of job.inputs h.path) h.reads)
    (λ v n. eval job d (record h { reads = h.reads + n; events = h.events ++ Read ∷ [] }) done k (scope ++ v ∷ []) ps)
eval job (suc d) h done (bind at (output e) k) scope ps =
    with_value h done (result_of scope e) (λ v. written v (λ z. eval job d (noted h (Wrote z)) done k (scope ++ unit_value ∷ []) ps))

-- the mains one after another, each whole
abbrev pub roots_done : Job → ℕ → List Routine → ℕ → List Entry → Option (List Entry)
roots_done job n [] k done = Some done
roots_done job n (m ∷ ms) k done =
    option_and_then (roots_done job n ms (k + 1)) (closing (eval job n (entered (k ∷ []) (prio_of [] m.declares.own)) done (inside m.body) [] []))

pub data Meaning : Type 0 where
  Over : Meaning
  Finished : (records : List Entry) → Meaning

abbrev pub within : ℕ → Option (List Entry) → Meaning
within n None = Over
within n (Some rs) = if nat_lt n (work rs) then Over else Finished rs

-- the serial meaning of a job with this fuel
abbrev pub meaning : Job → ℕ → Meaning
meaning job n = within n (roots_done job n job.program.mains 0 [])
