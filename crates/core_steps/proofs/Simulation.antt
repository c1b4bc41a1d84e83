-- The evaluation of a block follows the steps that the job determines for its thread.
use Rattle.std.proofs.Common.{◌≡◌, ℕ, zero, suc, ◌+◌, ◌<◌, ◌≤◌, List, [], ◌∷◌, ◌++◌, Option, Some, None, length, inl, inr, refl, sym, ◌∙◌, ap, subst, arith, append_assoc, append-nil, Bool, true, false, if◌then◌else◌}
use Rattle.std.specs.Prelude.{ℤ, slice_get, map}
use Rattle.std.specs.List.{AllByRecursion}
use Rattle.std.proofs.lemmas.List.{length_push}
use Rattle.std.proofs.lemmas.Bool.{cases_lt}
use Rattle.std.proofs.lemmas.Option.{none-some}
use Rattle.priml_syntax.specs.declared.event.Event.{Event}
use Rattle.priml_syntax.specs.declared.event.Event.TheVariants.{Start, Plain, Spawn, Join, Read, Wrote, End}
use Rattle.priml_syntax.specs.declared.prio.Prio.{Prio}
use Rattle.priml_syntax.specs.declared.value.FaultKind.{FaultKind}
use Rattle.priml_syntax.specs.declared.value.FaultKind.TheVariants.{Depth}
use Rattle.priml_syntax.specs.Tree.{Term, Code, Body, bind, ret_tail, if_tail, case_tail, ret, spawn, sync, call, do_block, input, output, inside, Routine}
use Rattle.priml_syntax.specs.Values.{Value', unit_value, bool_value, int_value, left_value, right_value, thread_value, Outcome', returned, faulted, Entry}
use Rattle.priml_syntax.specs.Paths.{child_path}
use Rattle.priml_syntax.specs.Records.{Each, In}
use Rattle.priml_syntax.specs.Events.{spawns}
use Rattle.priml_syntax.specs.Inputs.{inputs_of}
use Rattle.core_steps.specs.Expressions.{result_of, Results, AllGave, OneFault, results_of}
use Rattle.core_steps.specs.Steps.{Job, Frame, Run, Failing, Ended, State, Moved, prio_of, thread_in, go, fault_step, bound, with_result, with_results, back_to, sync_step, call_step, read_step, output_step, if_step, case_step, step, awaits, Ran, born, alone, joined}
use Rattle.core_steps.specs.Laws.{NeverStuck}
use Rattle.core_steps.specs.Meaning.{placed, outcome_at, Here, Answer, Out, Back, noted, with_value, with_values, entered, closing, after_thread, after_block, after_sync, synced, called, drawn, written, cased, may_spawn, eval}
use Rattle.core_steps.specs.Config.{Thread}
use Rattle.core_steps.specs.Determined.{steps_of}
use Rattle.core_steps.proofs.StepFacts.{spawned_child, spawned}
use Rattle.core_steps.proofs.Named.{named, spawns_push}
use Rattle.core_steps.proofs.Order.{not_below_self}
use Rattle.core_steps.proofs.Threads.{all_map}
use Rattle.core_steps.proofs.Complete.{IsRecord, each_map, each_placed, in_placed, in_placed_self, found}
use Rattle.core_steps.proofs.Bound.{IsDetermined, AreApart}
use Rattle.core_steps.proofs.Names.{OfValue, OfScope, OfOutcome, OfGiven, OfResults, scope_map, outcome_map, scope_push, result_names, results_names, variable_thread}

-- each thread that has a record in the first list has one in the second
abbrev pub Grows : List Entry → List Entry → Type 0
Grows xs ys = (p : List ℕ) → In p xs → In p ys

-- the thread of the path has a record
abbrev pub HasRecord : List Entry → List ℕ → Type 0
HasRecord done b = In b done

-- a record of the job whose children, and the threads that its outcome names, have records among the given ones
pub record Good (job : Job) (done : List Entry) (r : Entry) : Type 0 where
  pub is : IsRecord job r
  pub children : (k : ℕ) → k < spawns r.events → In (child_path r.path k) done
  pub names : OfOutcome (HasRecord done) r.outcome

good_grow : {job : Job} (xs ys : List Entry) (r : Entry) → Grows xs ys → Good job xs r → Good job ys r
good_grow xs ys r g h = record { is = h.is; children = λ k l. g (child_path r.path k) (h.children k l); names = outcome_map (HasRecord xs) (HasRecord ys) g r.outcome h.names }

-- the records of the threads that are done, while the thread here goes on
pub record IsTable (job : Job) (h : Here) (done : List Entry) : Type 0 where
  pub good : Each (Good job done) done
  pub children : (k : ℕ) → k < h.children → In (child_path h.path k) done

-- the state of the thread, with this block left to run over these frames
abbrev pub state_at : Here → Body → List Value' → List ℕ → List Frame → State
state_at h c scope ps fs = record { path = h.path; prio = h.prio; reads = h.reads; children = h.children; phase = Run (record { code = c; scope = scope; prios = ps }) fs }

-- the thread is about to give the value back to the frames below
pub record GivesBack (job : Job) (h : Here) (fs : List Frame) (v : Value') : Type 0 where
  pub place : ℕ
  pub term : Term
  pub scope : List Value'
  pub prios : List ℕ
  pub ran : Ran job h.path h.events (state_at h (ret_tail place term) scope prios fs)
  pub gives : result_of scope term ≡ Some (returned v)

-- the thread is about to end with the fault
pub record Faults (job : Job) (h : Here) (k : FaultKind) : Type 0 where
  pub state : State
  pub ran : Ran job h.path h.events state
  pub free : awaits state ≡ None
  pub ends : step job state None ≡ fault_step state k
  pub prio : state.prio ≡ h.prio
  pub children : state.children ≡ h.children

-- the thread is about to hand the outcome on
abbrev pub IsAbout : Job → Here → List Frame → Outcome' → Type 0
IsAbout job h fs (returned v) = GivesBack job h fs v
IsAbout job h fs (faulted k) = Faults job h k

-- a block that was begun at h gave the outcome at h', with records that hold those from before
pub record Backs (job : Job) (h : Here) (done : List Entry) (fs : List Frame) (o : Outcome') (h' : Here) (done' : List Entry) : Type 0 where
  pub path : h'.path ≡ h.path
  pub longer : length h.events ≤ length h'.events
  pub grows : Grows done done'
  pub table : IsTable job h' done'
  pub names : OfOutcome (HasRecord done') o
  pub about : IsAbout job h' fs o

-- different threads, each p or below it, with at least n events together
pub record Long (job : Job) (p : List ℕ) (n : ℕ) : Type 0 where
  pub threads : List Thread
  pub determined : AllByRecursion (IsDetermined job) threads
  pub apart : AreApart threads
  pub under : AllByRecursion (λ t. (ext : List ℕ) × (t.state.path ≡ p ++ ext)) threads
  pub enough : n ≤ steps_of threads

-- what an answer tells: where the evaluation is out and no thread is stuck, there are more events than the fuel
abbrev pub IsResult : Job → Here → List Entry → List Frame → ℕ → Answer → Type 0
IsResult job h done fs d Out = NeverStuck job → Long job h.path (length h.events + d)
IsResult job h done fs d (Back o h' done') = Backs job h done fs o h' done'

-- what the evaluation with fuel d tells, wherever the thread stands and whatever is left to run
abbrev pub Simulates : Job → ℕ → Type 0
Simulates job d = (h : Here) (done : List Entry) (c : Body) (scope : List Value') (ps : List ℕ) (fs : List Frame) →
    Ran job h.path h.events (state_at h c scope ps fs) → IsTable job h done → OfScope (HasRecord done) scope → IsResult job h done fs d (eval job d h done c scope ps)

pub long_less : {job : Job} {p : List ℕ} (m n : ℕ) → n ≤ m → Long job p m → Long job p n
long_less m n l x = record { threads = x.threads; determined = x.determined; apart = x.apart; under = x.under; enough = omega (arith, l, x.enough) }

long_here : {job : Job} {es : List Event} (s : State) (n : ℕ) → Ran job s.path es s → n ≤ length es → Long job s.path n
long_here {es} s n d l = record { threads = (record { state = s; events = es }) ∷ []; determined = (d, tt); apart = (tt, tt); under = (([], sym (append-nil s.path)), tt); enough = omega (arith, l) }

-- an answer of a later place in the same block is one of an earlier place
later : (job : Job) (h h1 : Here) (done done1 : List Entry) (fs : List Frame) (d : ℕ) (a : Answer) → h1.path ≡ h.path → length h.events + 1 ≤ length h1.events → Grows done done1 →
    IsResult job h1 done1 fs d a → IsResult job h done fs (suc d) a
later job h h1 done done1 fs d Out e l g r = λ never. subst (λ p. Long job p (length h.events + suc d)) e (long_less (length h1.events + d) (length h.events + suc d) (omega (arith, l)) (r never))
later job h h1 done done1 fs d (Back o h' done') e l g r =
    record { path = r.path ∙ e; longer = omega (arith, l, r.longer); grows = λ p i. r.grows p (g p i); table = r.table; names = r.names; about = r.about }

stay : (done : List Entry) → Grows done done
stay done p i = i

table_noted : {job : Job} (h : Here) (e : Event) (done : List Entry) → IsTable job h done → IsTable job (noted h e) done
table_noted h e done t = record { good = t.good; children = t.children }

-- a step within the block that needs no other thread
module _ (job : Job) (d : ℕ) (h : Here) (done : List Entry) (c : Body) (scope : List Value') (ps : List ℕ) (fs : List Frame) (ran : Ran job h.path h.events (state_at h c scope ps fs)) (t : IsTable job h done) (free : awaits (state_at h c scope ps fs) ≡ None) where
  -- a step that meets a value of a wrong kind
  stuck : step job (state_at h c scope ps fs) None ≡ None → IsResult job h done fs (suc d) Out
  stuck e never = let x : (m : Moved) × (step job (state_at h c scope ps fs) None ≡ Some m) = (never h.path h.events (state_at h c scope ps fs) ran refl).free free in absurd (none-some x.0 (sym e ∙ x.1))

  fault_here : (k : FaultKind) → step job (state_at h c scope ps fs) None ≡ fault_step (state_at h c scope ps fs) k → Backs job h done fs (faulted k) h done
  fault_here k e = record { path = refl; longer = omega arith; grows = stay done; table = t; names = tt; about = record { state = state_at h c scope ps fs; ran = ran; free = free; ends = e; prio = refl; children = refl } }

  -- a step that evaluates an expression and goes on with its value
  value_case : (o : Option Outcome') (f : Value' → Option Moved) (g : Value' → Answer) → step job (state_at h c scope ps fs) None ≡ with_result (state_at h c scope ps fs) o f → OfGiven (HasRecord done) o →
      ((v : Value') → OfValue (HasRecord done) v → step job (state_at h c scope ps fs) None ≡ f v → IsResult job h done fs (suc d) (g v)) → IsResult job h done fs (suc d) (with_value h done o g)
  value_case None f g e n k = stuck e
  value_case (Some (faulted x)) f g e n k = fault_here x e
  value_case (Some (returned v)) f g e n k = k v n e

  values_case : (o : Option Results) (f : List Value' → Option Moved) (g : List Value' → Answer) → step job (state_at h c scope ps fs) None ≡ with_results (state_at h c scope ps fs) o f → OfResults (HasRecord done) o →
      ((vs : List Value') → OfScope (HasRecord done) vs → step job (state_at h c scope ps fs) None ≡ f vs → IsResult job h done fs (suc d) (g vs)) → IsResult job h done fs (suc d) (with_values h done o g)
  values_case None f g e n k = stuck e
  values_case (Some (OneFault x)) f g e n k = fault_here x e
  values_case (Some (AllGave vs)) f g e n k = k vs n e

-- such a step that goes on with what is left
module _ (job : Job) (d : ℕ) (ih : Simulates job d) (h : Here) (done : List Entry) (c : Body) (scope : List Value') (ps : List ℕ) (fs : List Frame) (ran : Ran job h.path h.events (state_at h c scope ps fs)) (t : IsTable job h done) (free : awaits (state_at h c scope ps fs) ≡ None) where
  moves_on : (e : Event) (k : Body) (vs : List Value') → step job (state_at h c scope ps fs) None ≡ go (state_at h c scope ps fs) e (Run (record { code = k; scope = vs; prios = ps }) fs) → OfScope (HasRecord done) vs →
      IsResult job h done fs (suc d) (eval job d (noted h e) done k vs ps)
  moves_on e k vs w n = later job h (noted h e) done done fs d (eval job d (noted h e) done k vs ps) refl (omega (arith, length_push h.events e)) (stay done) (ih (noted h e) done k vs ps fs (alone ran free w refl refl) (table_noted h e done t) n)

-- the endings and actions that evaluate no other block before what is left
module _ (job : Job) (d : ℕ) (ih : Simulates job d) (h : Here) (done : List Entry) (scope : List Value') (ps : List ℕ) (fs : List Frame) (t : IsTable job h done) (n : OfScope (HasRecord done) scope) where
  give_case : (at : ℕ) (e : Term) → Ran job h.path h.events (state_at h (ret_tail at e) scope ps fs) → (o : Option Outcome') → result_of scope e ≡ o → OfGiven (HasRecord done) o →
      IsResult job h done fs (suc d) (with_value h done o (λ v. Back (returned v) h done))
  give_case at e ran None q m = stuck job d h done (ret_tail at e) scope ps fs ran t refl (ap (λ z. with_result (state_at h (ret_tail at e) scope ps fs) z (back_to (state_at h (ret_tail at e) scope ps fs) fs)) q)
  give_case at e ran (Some (faulted x)) q m = fault_here job d h done (ret_tail at e) scope ps fs ran t refl x (ap (λ z. with_result (state_at h (ret_tail at e) scope ps fs) z (back_to (state_at h (ret_tail at e) scope ps fs) fs)) q)
  give_case at e ran (Some (returned v)) q m = record { path = refl; longer = omega arith; grows = stay done; table = t; names = m; about = record { place = at; term = e; scope = scope; prios = ps; ran = ran; gives = q } }

  if_tail_case : (at : ℕ) (e : Term) (a b : Code) → Ran job h.path h.events (state_at h (if_tail at e a b) scope ps fs) → IsResult job h done fs (suc d) (eval job (suc d) h done (if_tail at e a b) scope ps)
  if_tail_case at e a b ran = value_case job d h done (if_tail at e a b) scope ps fs ran t refl (result_of scope e) _ _ refl (result_names (HasRecord done) scope e n) (λ v m w. go_on v w)
    where
      go_on : (v : Value') → step job (state_at h (if_tail at e a b) scope ps fs) None ≡ if_step (state_at h (if_tail at e a b) scope ps fs) (record { code = if_tail at e a b; scope = scope; prios = ps }) fs a b v →
          IsResult job h done fs (suc d) (elim v [ bool_value c ↦ elim c [ true ↦ eval job d (noted h Plain) done (inside a) scope ps | false ↦ eval job d (noted h Plain) done (inside b) scope ps ] | _ ↦ Out ])
      go_on (bool_value true) w = moves_on job d ih h done (if_tail at e a b) scope ps fs ran t refl Plain (inside a) scope w n
      go_on (bool_value false) w = moves_on job d ih h done (if_tail at e a b) scope ps fs ran t refl Plain (inside b) scope w n
      go_on v w = stuck job d h done (if_tail at e a b) scope ps fs ran t refl w

  case_tail_case : (at : ℕ) (e : Term) (a b : Code) → Ran job h.path h.events (state_at h (case_tail at e a b) scope ps fs) → IsResult job h done fs (suc d) (eval job (suc d) h done (case_tail at e a b) scope ps)
  case_tail_case at e a b ran = value_case job d h done (case_tail at e a b) scope ps fs ran t refl (result_of scope e) _ _ refl (result_names (HasRecord done) scope e n) go_on
    where
      go_on : (v : Value') → OfValue (HasRecord done) v → step job (state_at h (case_tail at e a b) scope ps fs) None ≡ case_step (state_at h (case_tail at e a b) scope ps fs) (record { code = case_tail at e a b; scope = scope; prios = ps }) fs a b v →
          IsResult job h done fs (suc d) (cased v (λ w. eval job d (noted h Plain) done (inside a) (scope ++ w ∷ []) ps) (λ w. eval job d (noted h Plain) done (inside b) (scope ++ w ∷ []) ps))
      go_on (left_value v) m w = moves_on job d ih h done (case_tail at e a b) scope ps fs ran t refl Plain (inside a) (scope ++ v ∷ []) w (scope_push (HasRecord done) scope v n m)
      go_on (right_value v) m w = moves_on job d ih h done (case_tail at e a b) scope ps fs ran t refl Plain (inside b) (scope ++ v ∷ []) w (scope_push (HasRecord done) scope v n m)
      go_on v m w = stuck job d h done (case_tail at e a b) scope ps fs ran t refl w

  ret_case : (at : ℕ) (e : Term) (k : Body) → Ran job h.path h.events (state_at h (bind at (ret e) k) scope ps fs) → IsResult job h done fs (suc d) (eval job (suc d) h done (bind at (ret e) k) scope ps)
  ret_case at e k ran = value_case job d h done (bind at (ret e) k) scope ps fs ran t refl (result_of scope e) _ _ refl (result_names (HasRecord done) scope e n)
      (λ v m w. moves_on job d ih h done (bind at (ret e) k) scope ps fs ran t refl Plain k (scope ++ v ∷ []) w (scope_push (HasRecord done) scope v n m))

  output_case : (at : ℕ) (e : Term) (k : Body) → Ran job h.path h.events (state_at h (bind at (output e) k) scope ps fs) → IsResult job h done fs (suc d) (eval job (suc d) h done (bind at (output e) k) scope ps)
  output_case at e k ran = value_case job d h done (bind at (output e) k) scope ps fs ran t refl (result_of scope e) _ _ refl (result_names (HasRecord done) scope e n) (λ v m w. go_on v w)
    where
      go_on : (v : Value') → step job (state_at h (bind at (output e) k) scope ps fs) None ≡ output_step (state_at h (bind at (output e) k) scope ps fs) (record { code = bind at (output e) k; scope = scope; prios = ps }) fs k v →
          IsResult job h done fs (suc d) (written v (λ z. eval job d (noted h (Wrote z)) done k (scope ++ unit_value ∷ []) ps))
      go_on (int_value z) w = moves_on job d ih h done (bind at (output e) k) scope ps fs ran t refl (Wrote z) k (scope ++ unit_value ∷ []) w (scope_push (HasRecord done) scope unit_value n tt)
      go_on v w = stuck job d h done (bind at (output e) k) scope ps fs ran t refl w

  -- a read, where there is a number and where there is none
  input_case : (at : ℕ) (k : Body) → Ran job h.path h.events (state_at h (bind at input k) scope ps fs) → (o : Option ℤ) →
      step job (state_at h (bind at input k) scope ps fs) None ≡ read_step (state_at h (bind at input k) scope ps fs) (record { code = bind at input k; scope = scope; prios = ps }) fs k o →
      IsResult job h done fs (suc d) (drawn o (λ v m. eval job d (record h { reads = h.reads + m; events = h.events ++ Read ∷ [] }) done k (scope ++ v ∷ []) ps))
  input_case at k ran None w =
      let h1 : Here = record h { reads = h.reads + 0; events = h.events ++ Read ∷ [] } in
      let e : h.reads + 0 ≡ h.reads = omega arith in
      later job h h1 done done fs d (eval job d h1 done k (scope ++ left_value unit_value ∷ []) ps) refl (omega (arith, length_push h.events Read)) (stay done)
      (ih h1 done k (scope ++ left_value unit_value ∷ []) ps fs (alone ran refl w refl (λ i. state_at (record h { reads = e i }) k (scope ++ left_value unit_value ∷ []) ps fs)) (record { good = t.good; children = t.children }) (scope_push (HasRecord done) scope (left_value unit_value) n tt))
  input_case at k ran (Some z) w =
      let h1 : Here = record h { reads = h.reads + 1; events = h.events ++ Read ∷ [] } in
      later job h h1 done done fs d (eval job d h1 done k (scope ++ right_value (int_value z) ∷ []) ps) refl (omega (arith, length_push h.events Read)) (stay done)
      (ih h1 done k (scope ++ right_value (int_value z) ∷ []) ps fs (alone ran refl w refl refl) (record { good = t.good; children = t.children }) (scope_push (HasRecord done) scope (right_value (int_value z)) n tt))

-- the record of a thread whose block has given an outcome
abbrev pub own : Outcome' → Here → Entry
own o h = record { path = h.path; prio = h.prio; events = h.events ++ End ∷ []; outcome = o }

own_is : (job : Job) (h : Here) (o : Outcome') → IsAbout job h [] o → IsRecord job (own o h)
own_is job h (returned v) a =
    let s : State = state_at h (ret_tail a.place a.term) a.scope a.prios [] in
    record { state = record s { phase = Ended (returned v) }; ran = alone a.ran refl (ap (λ o. with_result s o (back_to s [])) a.gives) refl refl; ended = refl; prio = refl }
own_is job h (faulted k) a = record { state = record a.state { phase = Ended (faulted k) }; ran = alone a.ran a.free a.ends refl refl; ended = refl; prio = a.prio }

-- how many children the thread has
own_spawns : (job : Job) (h : Here) (fs : List Frame) (o : Outcome') → IsAbout job h fs o → spawns (h.events ++ End ∷ []) ≡ h.children
own_spawns job h fs (returned v) a = omega (arith, spawns_push h.events End, (named a.ran).children)
own_spawns job h fs (faulted k) a = omega (arith, spawns_push h.events End, (named a.ran).children, a.children)

-- the record of a thread joins the table
pub closed_table : (job : Job) (h h' : Here) (done done' : List Entry) (o : Outcome') → Backs job h done [] o h' done' → Each (Good job (placed (own o h') done')) (placed (own o h') done')
closed_table job h h' done done' o b =
    let g : Grows done' (placed (own o h') done') = in_placed (own o h') done' in
    let each_child : (k : ℕ) → k < spawns (h'.events ++ End ∷ []) → In (child_path h'.path k) (placed (own o h') done') = λ k l. g (child_path h'.path k) (b.table.children k (omega (arith, l, own_spawns job h' [] o b.about))) in
    let mine : Good job (placed (own o h') done') (own o h') = record { is = own_is job h' o b.about; children = each_child; names = outcome_map (HasRecord done') (HasRecord (placed (own o h') done')) g o b.names } in
    each_placed (Good job (placed (own o h') done')) (own o h') done' mine (each_map done' (λ r x. good_grow done' (placed (own o h') done') r g x) b.table.good)

-- a child that takes long makes its parent take long
long_child : {job : Job} (s : State) (es : List Event) (k n m : ℕ) → Ran job s.path (es ++ Spawn ∷ []) s → Long job (child_path s.path k) n → m ≤ length es + 1 + n → Long job s.path m
long_child s es k n m ran x l =
    record {
      threads = (record { state = s; events = es ++ Spawn ∷ [] }) ∷ x.threads;
      determined = (ran, x.determined);
      apart = (all_map x.threads (λ y u e. not_below_self s.path (k, u.0, sym e ∙ (u.1 ∙ append_assoc s.path (k ∷ []) u.0))) x.under, x.apart);
      under = (([], sym (append-nil s.path)), all_map x.threads (λ y u. (k ∷ u.0, u.1 ∙ append_assoc s.path (k ∷ []) u.0)) x.under);
      enough = omega (arith, l, x.enough, length_push es Spawn);
    }

-- what holds of each number below n, and of n
pub below_more : (P : ℕ → Type 0) (n : ℕ) → ((k : ℕ) → k < n → P k) → P n → (k : ℕ) → k < n + 1 → P k
below_more P n f p k l = elim (cases_lt k n) [ inl a ↦ f k a | inr b ↦ (let e : n ≡ k = omega arith in subst P e p) ]

-- the thread here after a spawn
abbrev after_spawn : Here → Here
after_spawn h = record h { children = h.children + 1; events = h.events ++ Spawn ∷ [] }

-- the actions that evaluate another block first, and the joins
module _ (job : Job) (d : ℕ) (ih : Simulates job d) (h : Here) (done : List Entry) (scope : List Value') (ps : List ℕ) (fs : List Frame) (t : IsTable job h done) (n : OfScope (HasRecord done) scope) where
  spawn_rest : (k : Body) (q : ℕ) (h0 : Here) → h0.path ≡ child_path h.path h.children → 1 ≤ length h0.events →
      Ran job h.path (h.events ++ Spawn ∷ []) (state_at (after_spawn h) k (scope ++ thread_value (child_path h.path h.children) q ∷ []) ps fs) → (a : Answer) → IsResult job h0 done [] d a →
      IsResult job h done fs (suc d) (after_thread (closing a) (λ done'. eval job d (after_spawn h) done' k (scope ++ thread_value (child_path h.path h.children) q ∷ []) ps))
  spawn_rest k q h0 e l ran Out r = λ never. long_child (state_at (after_spawn h) k (scope ++ thread_value (child_path h.path h.children) q ∷ []) ps fs) h.events h.children (length h0.events + d) (length h.events + suc d) ran (subst (λ p. Long job p (length h0.events + d)) e (r never)) (omega (arith, l))
  spawn_rest k q h0 e l ran (Back o h' done') r =
      let all : List Entry = placed (own o h') done' in
      let g : Grows done all = λ p i. in_placed (own o h') done' p (r.grows p i) in
      let c : In (child_path h.path h.children) all = subst (λ p. In p all) (r.path ∙ e) (in_placed_self (own o h') done') in
      let each_child : (j : ℕ) → j < h.children + 1 → In (child_path h.path j) all = below_more (λ j. In (child_path h.path j) all) h.children (λ j a. g (child_path h.path j) (t.children j a)) c in
      later job h (after_spawn h) done all fs d (eval job d (after_spawn h) all k (scope ++ thread_value (child_path h.path h.children) q ∷ []) ps) refl (omega (arith, length_push h.events Spawn)) g
      (ih (after_spawn h) all k (scope ++ thread_value (child_path h.path h.children) q ∷ []) ps fs ran (record { good = closed_table job h0 h' done done' o r; children = each_child })
      (scope_push (HasRecord all) scope (thread_value (child_path h.path h.children) q) (scope_map (HasRecord done) (HasRecord all) g scope n) c))

  spawn_case : (at : ℕ) (p : Prio) (b : Code) (k : Body) → Ran job h.path h.events (state_at h (bind at (spawn p b) k) scope ps fs) → (may : Bool) →
      step job (state_at h (bind at (spawn p b) k) scope ps fs) None ≡ (if may then Some (spawned (state_at h (bind at (spawn p b) k) scope ps fs) (record { code = bind at (spawn p b) k; scope = scope; prios = ps }) fs p b k) else fault_step (state_at h (bind at (spawn p b) k) scope ps fs) Depth) →
      IsResult job h done fs (suc d) (elim may [
        | true ↦ after_thread (closing (eval job d (entered (child_path h.path h.children) (prio_of ps p)) done (inside b) scope ps)) (λ done'. eval job d (after_spawn h) done' k (scope ++ thread_value (child_path h.path h.children) (prio_of ps p) ∷ []) ps)
        | false ↦ Back (faulted Depth) h done
      ])
  spawn_case at p b k ran false w = fault_here job d h done (bind at (spawn p b) k) scope ps fs ran t refl Depth w
  spawn_case at p b k ran true w =
      let child : List ℕ = child_path h.path h.children in
      let fresh : Ran job child [] (spawned_child (state_at h (bind at (spawn p b) k) scope ps fs) (record { code = bind at (spawn p b) k; scope = scope; prios = ps }) p b) = born ran refl w refl refl refl refl in
      let begun : Ran job child (Start ∷ []) (state_at (entered child (prio_of ps p)) (inside b) scope ps []) = alone fresh refl refl refl refl in
      spawn_rest k (prio_of ps p) (entered child (prio_of ps p)) refl (omega arith) (alone ran refl w refl refl) (eval job d (entered child (prio_of ps p)) done (inside b) scope ps)
      (ih (entered child (prio_of ps p)) done (inside b) scope ps [] begun (record { good = t.good; children = λ j l. absurd (omega (arith, l)) }) n)

  joined_case : (at x : ℕ) (k : Body) → Ran job h.path h.events (state_at h (bind at (sync x) k) scope ps fs) → (b : List ℕ) → thread_in (slice_get scope x) ≡ Some b →
      (r : Entry) → r.path ≡ b → Good job done r → (o : Outcome') → r.outcome ≡ o →
      IsResult job h done fs (suc d) (after_sync h done (Some o) b (λ v. eval job d (noted h (Join b)) done k (scope ++ v ∷ []) ps))
  joined_case at x k ran b e r q g (returned v) w =
      let s : State = state_at h (bind at (sync x) k) scope ps fs in
      let f : Frame = record { code = bind at (sync x) k; scope = scope; prios = ps } in
      let other : Ran job b r.events g.is.state = subst (λ p. Ran job p r.events g.is.state) q g.is.ran in
      let st : step job s (Some (returned v)) ≡ go s (Join b) (Run (bound f k v) fs) = ap (λ z. sync_step s f fs k z (Some (returned v))) e in
      let m : OfValue (HasRecord done) v = subst (OfOutcome (HasRecord done)) w g.names in
      later job h (noted h (Join b)) done done fs d (eval job d (noted h (Join b)) done k (scope ++ v ∷ []) ps) refl (omega (arith, length_push h.events (Join b))) (stay done)
      (ih (noted h (Join b)) done k (scope ++ v ∷ []) ps fs (joined ran other e (g.is.ended ∙ ap Ended w) st refl refl) (table_noted h (Join b) done t) (scope_push (HasRecord done) scope v n m))
  joined_case at x k ran b e r q g (faulted y) w =
      let s : State = state_at h (bind at (sync x) k) scope ps fs in
      let f : Frame = record { code = bind at (sync x) k; scope = scope; prios = ps } in
      let other : Ran job b r.events g.is.state = subst (λ p. Ran job p r.events g.is.state) q g.is.ran in
      let st : step job s (Some (faulted y)) ≡ go s (Join b) (Failing y) = ap (λ z. sync_step s f fs k z (Some (faulted y))) e in
      let next : State = record s { phase = Failing y } in
      let ran2 : Ran job h.path (h.events ++ Join b ∷ []) next = joined ran other e (g.is.ended ∙ ap Ended w) st refl refl in
      record { path = refl; longer = omega (arith, length_push h.events (Join b)); grows = stay done; table = table_noted h (Join b) done t; names = tt; about = record { state = next; ran = ran2; free = refl; ends = refl; prio = refl; children = refl } }

  sync_case : (at x : ℕ) (k : Body) → Ran job h.path h.events (state_at h (bind at (sync x) k) scope ps fs) → (b : Option (List ℕ)) → thread_in (slice_get scope x) ≡ b →
      IsResult job h done fs (suc d) (synced h done b (λ b v. eval job d (noted h (Join b)) done k (scope ++ v ∷ []) ps))
  sync_case at x k ran None e =
      let s : State = state_at h (bind at (sync x) k) scope ps fs in
      stuck job d h done (bind at (sync x) k) scope ps fs ran t e (ap (λ z. sync_step s (record { code = bind at (sync x) k; scope = scope; prios = ps }) fs k z None) e)
  sync_case at x k ran (Some b) e =
      let y : (r : Entry) × (r.path ≡ b) × Good job done r × (outcome_at done b ≡ Some r.outcome) = found done b t.good (variable_thread (HasRecord done) scope x b n e) in
      subst (λ z. IsResult job h done fs (suc d) (after_sync h done z b (λ v. eval job d (noted h (Join b)) done k (scope ++ v ∷ []) ps))) (sym y.3)
      (joined_case at x k ran b e y.0 y.1 y.2 y.0.outcome refl)

  -- a block within the thread, and what is left after it
  block_case : (k : Body) (h1 : Here) → h1.path ≡ h.path → length h.events + 1 ≤ length h1.events → (a : Answer) → IsResult job h1 done (record { code = k; scope = scope; prios = ps } ∷ fs) d a →
      IsResult job h done fs (suc d) (after_block a (λ w h' done'. eval job d (noted h' Plain) done' k (scope ++ w ∷ []) ps))
  block_case k h1 e l Out r = λ never. subst (λ p. Long job p (length h.events + suc d)) e (long_less (length h1.events + d) (length h.events + suc d) (omega (arith, l)) (r never))
  block_case k h1 e l (Back (faulted x) h' done') r = record { path = r.path ∙ e; longer = omega (arith, l, r.longer); grows = r.grows; table = r.table; names = tt; about = r.about }
  block_case k h1 e l (Back (returned w) h' done') r =
      let below : Frame = record { code = k; scope = scope; prios = ps } in
      let s : State = state_at h' (ret_tail r.about.place r.about.term) r.about.scope r.about.prios (below ∷ fs) in
      later job h (noted h' Plain) done done' fs d (eval job d (noted h' Plain) done' k (scope ++ w ∷ []) ps) (r.path ∙ e) (omega (arith, l, r.longer, length_push h'.events Plain)) r.grows
      (ih (noted h' Plain) done' k (scope ++ w ∷ []) ps fs (alone r.about.ran refl (ap (λ o. with_result s o (back_to s (below ∷ fs))) r.about.gives) refl refl) (table_noted h' Plain done' r.table)
      (scope_push (HasRecord done') scope w (scope_map (HasRecord done) (HasRecord done') r.grows scope n) r.names))

  do_block_case : (at : ℕ) (b : Code) (k : Body) → Ran job h.path h.events (state_at h (bind at (do_block b) k) scope ps fs) → IsResult job h done fs (suc d) (eval job (suc d) h done (bind at (do_block b) k) scope ps)
  do_block_case at b k ran = block_case k (noted h Plain) refl (omega (arith, length_push h.events Plain)) (eval job d (noted h Plain) done (inside b) scope ps)
      (ih (noted h Plain) done (inside b) scope ps (record { code = k; scope = scope; prios = ps } ∷ fs) (alone ran refl refl refl refl) (table_noted h Plain done t) n)

  call_case : (at f : ℕ) (qs : List Prio) (es : List Term) (k : Body) → Ran job h.path h.events (state_at h (bind at (call f qs es) k) scope ps fs) → IsResult job h done fs (suc d) (eval job (suc d) h done (bind at (call f qs es) k) scope ps)
  call_case at f qs es k ran = values_case job d h done (bind at (call f qs es) k) scope ps fs ran t refl (results_of scope es) _ _ refl (results_names (HasRecord done) scope es n) (λ vs m w. enters vs m (slice_get job.program.procs f) w)
    where
      enters : (vs : List Value') → OfScope (HasRecord done) vs → (o : Option Routine) →
          step job (state_at h (bind at (call f qs es) k) scope ps fs) None ≡ call_step (state_at h (bind at (call f qs es) k) scope ps fs) (record { code = bind at (call f qs es) k; scope = scope; prios = ps }) fs k o qs vs →
          IsResult job h done fs (suc d) (called o (λ g. after_block (eval job d (noted h Plain) done (inside g.body) vs (map (prio_of ps) qs)) (λ w h' done'. eval job d (noted h' Plain) done' k (scope ++ w ∷ []) ps)))
      enters vs m None w = stuck job d h done (bind at (call f qs es) k) scope ps fs ran t refl w
      enters vs m (Some g) w = block_case k (noted h Plain) refl (omega (arith, length_push h.events Plain)) (eval job d (noted h Plain) done (inside g.body) vs (map (prio_of ps) qs))
          (ih (noted h Plain) done (inside g.body) vs (map (prio_of ps) qs) (record { code = k; scope = scope; prios = ps } ∷ fs) (alone ran refl w refl refl) (table_noted h Plain done t) m)

out_of_fuel : (job : Job) → Simulates job zero
out_of_fuel job h done c scope ps fs ran t n = λ never. long_here (state_at h c scope ps fs) (length h.events + zero) ran (omega arith)

body_case : (job : Job) (d : ℕ) → Simulates job d → Simulates job (suc d)
body_case job d ih h done (ret_tail at e) scope ps fs ran t n = give_case job d ih h done scope ps fs t n at e ran (result_of scope e) refl (result_names (HasRecord done) scope e n)
body_case job d ih h done (if_tail at e a b) scope ps fs ran t n = if_tail_case job d ih h done scope ps fs t n at e a b ran
body_case job d ih h done (case_tail at e a b) scope ps fs ran t n = case_tail_case job d ih h done scope ps fs t n at e a b ran
body_case job d ih h done (bind at (ret e) k) scope ps fs ran t n = ret_case job d ih h done scope ps fs t n at e k ran
body_case job d ih h done (bind at (spawn p b) k) scope ps fs ran t n = spawn_case job d ih h done scope ps fs t n at p b k ran (may_spawn h) refl
body_case job d ih h done (bind at (sync x) k) scope ps fs ran t n = sync_case job d ih h done scope ps fs t n at x k ran (thread_in (slice_get scope x)) refl
body_case job d ih h done (bind at (call f qs es) k) scope ps fs ran t n = call_case job d ih h done scope ps fs t n at f qs es k ran
body_case job d ih h done (bind at (do_block b) k) scope ps fs ran t n = do_block_case job d ih h done scope ps fs t n at b k ran
body_case job d ih h done (bind at input k) scope ps fs ran t n = input_case job d ih h done scope ps fs t n at k ran (slice_get (inputs_of job.inputs h.path) h.reads) refl
body_case job d ih h done (bind at (output e) k) scope ps fs ran t n = output_case job d ih h done scope ps fs t n at e k ran

-- the evaluation of a block with any fuel follows the thread's steps
pub simulates : (job : Job) (d : ℕ) → Simulates job d
simulates job zero = out_of_fuel job
simulates job (suc d) = body_case job d (simulates job d)
