-- A state with a type makes a step, to a state of the same type; a child of the step begins with a type.
use Rattle.std.proofs.Common.{◌≡◌, ℕ, zero, suc, ◌+◌, List, [], ◌∷◌, ◌++◌, Option, Some, None, length, map, refl, sym, ◌∙◌, ap, subst, Bool, true, false, if◌then◌else◌, append-nil}
use Rattle.std.specs.Prelude.{slice_get, nat_lt, ◌&&◌, ℤ}
use Rattle.std.specs.List.{All}
use Rattle.std.proofs.lemmas.List.{length_push, length-map, map-append}
use Rattle.std.proofs.lemmas.Option.{same_Some, slice_get_within, get_or_from_slice_get}
use Rattle.priml_syntax.specs.declared.event.Event.{Event}
use Rattle.priml_syntax.specs.declared.prio.Prio.{Prio}
use Rattle.priml_syntax.specs.declared.prio.Prio.TheVariants.{Const}
use Rattle.priml_syntax.specs.declared.value.FaultKind.TheVariants.{Depth}
use Rattle.priml_syntax.specs.Tree.{Type', unit, bool, int, sum, thread, Term, Code, block, Body, bind, ret_tail, if_tail, case_tail, Act, ret, spawn, sync, call, do_block, input, output, inside, Routine, Signature, Constraint, pairs_of}
use Rattle.priml_syntax.specs.Values.{Value', thread_value, Outcome', returned, faulted}
use Rattle.priml_syntax.specs.Scoped as scoped
use Rattle.priml_syntax.specs.Scoped.{PrioIn, PriosIn, CodeIn, BodyIn, ActIn, RoutineIn, scope_in}
use Rattle.priml_syntax.specs.Paths.{child_path}
use Rattle.priml_syntax.specs.Inputs.{inputs_of}
use Rattle.constraint_proof.specs.Entailed.{Entailed}
use Rattle.type_rules.specs.Typing.{VarTypes, Context, HasType, CodeHas, BodyHas, ActHas, CallFits, subst_prio, subst_type}
use Rattle.type_rules.specs.Typable.{RoutineTyped}
use Rattle.core_steps.specs.Expressions.{gave, result_of, results_of, Results, AllGave, OneFault}
use Rattle.core_steps.specs.Steps as steps
use Rattle.core_steps.specs.Steps.{Job, Frame, Phase, Fresh, Run, Failing, Ended, State, Moved, step, phase_step, run_code, act, awaits, awaits_phase, awaits_code, awaits_action, prio_of, thread_in, bound, outcome_in, Ran, born}
use Rattle.core_steps.specs.Laws.{IsChecked}
use Rattle.core_steps.proofs.StepFacts.{spawned_child, spawned}
use Rattle.core_steps.proofs.Typed.{settled, setting_at, scope_at, Under, Has, has_unit, has_bool, has_int, has_left, has_right, has_thread, Born, begins, CodeFits, fits, AllHave, none, more, FrameHas, StackHas, OutcomeHas, PhaseHas}
use Rattle.core_steps.proofs.TypedResults.{Gives, GivesAll, variable_has, settled_get, result_has, results_have}
use Rattle.core_steps.proofs.Settled.{prio_settled, type_settled, types_settled, meets_at, all_declared_at}

-- the child, where there is one, has not started, and begins with a type at its priority
abbrev pub ChildHas : Job → Option State → Type 0
ChildHas job None = Unit {0}
ChildHas job (Some c) = (f : Frame) × (t : Type') × (c.phase ≡ Fresh f) × FrameHas job f [] c.prio t

-- a step came, to a phase of the type at the priority, and its child begins with a type
abbrev pub MovesTo : Job → ℕ → Type' → Option Moved → Type 0
MovesTo job q u None = ⊥
MovesTo job q u (Some m) = PhaseHas job q m.next.phase u × ChildHas job m.child

-- the outcome is of each type of the awaited thread; there is none where none is awaited
abbrev pub Handed : Job → Option (List ℕ) → Option Outcome' → Type 0
Handed job a None = a ≡ None
Handed job a (Some o) = (b : List ℕ) × (a ≡ Some b) × ((q : ℕ) (t : Type') → Born job b q t → OutcomeHas job o t)

-- a child of the step is a thread of the job, where no thread is awaited
abbrev Bears : Job → Option (List ℕ) → Option Moved → Type 0
Bears job a o = (m : Moved) (c : State) → a ≡ None → o ≡ Some m → m.child ≡ Some c → Ran job c.path [] c

-- what holds of each element holds of that of this number
pub at_number : {X : Type 0} (P : X → Type 0) (xs : List X) (k : ℕ) (x : X) → All P xs → slice_get xs k ≡ Some x → P x
at_number P xs k x h e = subst P (get_or_from_slice_get xs k x x e) (h k x (slice_get_within xs k x e))

-- the procedure of which a signature is
signed_by : (procs : List Routine) (f : ℕ) (sig : Signature) → slice_get (map (λ (g : Routine). g.declares) procs) f ≡ Some sig → (g : Routine) × (slice_get procs f ≡ Some g) × (g.declares ≡ sig)
signed_by [] f sig e = cc
signed_by (g ∷ gs) zero sig e = (g, refl, same_Some g.declares sig e)
signed_by (g ∷ gs) (suc f) sig e = signed_by gs f sig e

pub inside_has : (c : Code) (s : Context) (G : VarTypes) (r : Prio) (T : Type') → CodeHas c s G r T → BodyHas (inside c) s G r T
inside_has (block at b) s G r T h = h

pub inside_in : (c : Code) (s : scoped.NameCounts) (n : ℕ) → CodeIn c s n → BodyIn (inside c) s n
inside_in (block at b) s n h = h

have_push : {job : Job} {vs : List Value'} {ts : List Type'} {v : Value'} {t : Type'} → AllHave job vs ts → Has job v t → AllHave job (vs ++ v ∷ []) (ts ++ t ∷ [])
have_push none h = more h none
have_push (more a r) h = more a (have_push r h)

-- a frame gets the value that it wants
with_value : {job : Job} {c : Body} {scope : List Value'} {ps : List ℕ} {q : ℕ} {v : Value'} {A t : Type'} → CodeFits job c scope ps (A ∷ []) q t → Has job v A → CodeFits job c (scope ++ v ∷ []) ps [] q t
with_value {A = A} (fits given r u all have under has within values e gives) h = fits given r u all (have ++ A ∷ []) under has within (have_push values h) (append-nil (have ++ A ∷ []) ∙ e) gives

is_thread : {job : Job} {v : Value'} {n : ℕ} {T : Type'} → Has job v (thread (Const n) T) → (b : List ℕ) × (v ≡ thread_value b n) × Born job b n T
is_thread (has_thread {p = b} h) = (b, refl, h)

-- a variable of a thread type is a thread, which was born with that type
pub thread_there : {job : Job} {scope : List Value'} {Ts : List Type'} (x n : ℕ) (T : Type') → AllHave job scope Ts → slice_get Ts x ≡ Some (thread (Const n) T) → (b : List ℕ) × (slice_get scope x ≡ Some (thread_value b n)) × Born job b n T
thread_there {job} {scope} x n T values e = go (slice_get scope x) (variable_has job x (thread (Const n) T) values e)
  where
    go : (o : Option Value') → Gives job (thread (Const n) T) (gave o) → (b : List ℕ) × (o ≡ Some (thread_value b n)) × Born job b n T
    go None h = absurd h
    go (Some v) h = let z = is_thread h in (z.0, ap Some z.1, z.2)

-- of code that runs at the priority q, in a thread of the type u
module _ (job : Job) (checked : IsChecked job) (q : ℕ) (u : Type') where
  result_moves : (s : State) (T : Type') (o : Option Outcome') (f : Value' → Option Moved) → Gives job T o → ((v : Value') → Has job v T → MovesTo job q u (f v)) → MovesTo job q u (steps.with_result s o f)
  result_moves s T None f h k = h
  result_moves s T (Some (faulted x)) f h k = (tt, tt)
  result_moves s T (Some (returned v)) f h k = k v h

  results_move : (s : State) (Ts : List Type') (o : Option Results) (f : List Value' → Option Moved) → GivesAll job Ts o → ((vs : List Value') → AllHave job vs Ts → MovesTo job q u (f vs)) → MovesTo job q u (steps.with_results s o f)
  results_move s Ts None f h k = h
  results_move s Ts (Some (OneFault x)) f h k = (tt, tt)
  results_move s Ts (Some (AllGave vs)) f h k = k vs h

  back_moves : (s : State) (fs : List Frame) (v : Value') (w : Type') → StackHas job q fs w u → Has job v w → MovesTo job q u (steps.back_to s fs v)
  back_moves s [] v w stack h = (subst (Has job v) stack h, tt)
  back_moves s (f ∷ fs) v w stack h = ((stack.0, with_value stack.1 h, stack.2), tt)

  -- of the frame t, which gives a value of the type w to the frames below it
  module _ (s : State) (t : Frame) (fs : List Frame) (w : Type') (stack : StackHas job q fs w u) where
    -- what is left of the frame wants a value of the type
    abbrev Wants : Body → Type' → Type 0
    Wants k A = CodeFits job k t.scope t.prios (A ∷ []) q w

    -- the frame goes on with the value that it wants
    goes_on : (k : Body) (A : Type') (v : Value') → Wants k A → Has job v A → PhaseHas job q (Run (bound t k v) fs) u
    goes_on k A v rest h = (w, with_value rest h, stack)

    spawn_moves : (p : Prio) (b : Code) (k : Body) (A : Type') → CodeFits job (inside b) t.scope t.prios [] (prio_of t.prios p) A → Wants k (thread (Const (prio_of t.prios p)) A) →
        Bears job None (steps.spawn_step s t fs p b k) → MovesTo job q u (steps.spawn_step s t fs p b k)
    spawn_moves p b k A inner rest bears = go (nat_lt (length s.path) 32 && nat_lt s.children 4294967295) bears
      where
        go : (room : Bool) → Bears job None (if room then Some (spawned s t fs p b k) else steps.fault_step s Depth) → MovesTo job q u (if room then Some (spawned s t fs p b k) else steps.fault_step s Depth)
        go true bears =
            let child : Born job (child_path s.path s.children) (prio_of t.prios p) A = begins (bears (spawned s t fs p b k) (spawned_child s t p b) refl refl refl) refl refl inner in
            (goes_on k (thread (Const (prio_of t.prios p)) A) _ rest (has_thread child), (_, A, refl, inner))
        go false bears = (tt, tt)

    join_moves : (k : Body) (n : ℕ) (A : Type') (b : List ℕ) (o : Option Outcome') → Wants k A → Born job b n A → Handed job (Some b) o → MovesTo job q u (steps.join_step s t fs k b o)
    join_moves k n A b None rest h handed = absurd (cc)
    join_moves k n A b (Some (returned v)) rest h (c, e, has) = (goes_on k A v rest (has n A (subst (λ z. Born job z n A) (same_Some b c e) h)), tt)
    join_moves k n A b (Some (faulted f)) rest h handed = (tt, tt)

    read_moves : (k : Body) (o : Option ℤ) → Wants k (sum unit int) → MovesTo job q u (steps.read_step s t fs k o)
    read_moves k None rest = (goes_on k (sum unit int) _ rest (has_left has_unit), tt)
    read_moves k (Some z) rest = (goes_on k (sum unit int) _ rest (has_right has_int), tt)

    output_moves : (k : Body) {v : Value'} → Wants k unit → Has job v int → MovesTo job q u (steps.output_step s t fs k v)
    output_moves k rest has_int = (goes_on k unit _ rest has_unit, tt)

    if_moves : (a b : Code) {v : Value'} → CodeFits job (inside a) t.scope t.prios [] q w → CodeFits job (inside b) t.scope t.prios [] q w → Has job v bool → MovesTo job q u (steps.if_step s t fs a b v)
    if_moves a b x y (has_bool {b = true}) = ((w, x, stack), tt)
    if_moves a b x y (has_bool {b = false}) = ((w, y, stack), tt)

    case_moves : (a b : Code) (A B : Type') {v : Value'} → Wants (inside a) A → Wants (inside b) B → Has job v (sum A B) → MovesTo job q u (steps.case_step s t fs a b v)
    case_moves a b A B x y (has_left h) = (goes_on (inside a) A _ x h, tt)
    case_moves a b A B x y (has_right h) = (goes_on (inside b) B _ y h, tt)

    -- with the constraints of the frame's code, the priority at which it was typed, and the types of its variables
    module _ (given : List Constraint) (r : Prio) (all : List Type') (under : Under job t.prios given r q) (values : AllHave job t.scope (map (settled t.prios) all)) where
      result : (e : Term) (T : Type') → HasType all e T → Gives job (settled t.prios T) (result_of t.scope e)
      result e T has = result_has job t.prios all t.scope values e T has

      -- a callee's frame has the type of the call
      callee_fits : (f : ℕ) (qs : List Prio) (es : List Term) (A : Type') → PriosIn (scope_at job (length t.prios)) qs → (fit : CallFits (setting_at job given) all r f qs es A) →
          (g : Routine) → slice_get job.program.procs f ≡ Some g → g.declares ≡ fit.sig →
          (vs : List Value') → AllHave job vs (map (settled t.prios) (map (subst_type qs) fit.sig.params)) → CodeFits job (inside g.body) vs (map (prio_of t.prios) qs) [] q (settled t.prios A)
      callee_fits f qs es A within fit g there same vs have =
          let typed : RoutineTyped job.program g = at_number (RoutineTyped job.program) job.program.procs f g checked.typable.procs there in
          let routine : RoutineIn job.program g = at_number (RoutineIn job.program) job.program.procs f g checked.scoped.procs there in
          let few : g.declares.vars ≡ length qs = ap (λ z. z.vars) same ∙ sym fit.prios in
          let vars : g.declares.vars ≡ length (map (prio_of t.prios) qs) = few ∙ sym (length-map qs (prio_of t.prios)) in
          fits g.declares.given g.declares.own g.declares.gives g.declares.params (map (settled (map (prio_of t.prios) qs)) g.declares.params)
          (record {
            declared = all_declared_at job t.prios qs under.declared within;
            meets = meets_at (scope_in job.program g) (pairs_of job.program) given t.prios qs under.meets few g.declares.given routine.given (subst (All (λ (c : Constraint). Entailed (pairs_of job.program) given (subst_prio qs c.0) (subst_prio qs c.1))) (ap (λ z. z.given) (sym same)) fit.constraints);
            scoped = subst (λ n. PrioIn (scope_at job n) g.declares.own) vars routine.own;
            own = sym (prio_settled (scope_in job.program g) t.prios qs g.declares.own few routine.own) ∙ (ap (λ z. prio_of t.prios (subst_prio qs z.own)) same ∙ (ap (prio_of t.prios) fit.own ∙ under.own));
          })
          (inside_has g.body _ _ _ _ typed)
          (subst (λ n. BodyIn (inside g.body) (scope_at job n) (length g.declares.params)) vars (inside_in g.body _ _ routine.body))
          (subst (AllHave job vs) (ap (λ z. map (settled t.prios) (map (subst_type qs) z.params)) (sym same) ∙ types_settled (scope_in job.program g) t.prios qs g.declares.params few routine.params) have)
          (append-nil _)
          (sym (type_settled (scope_in job.program g) t.prios qs g.declares.gives few routine.gives.0) ∙ (ap (λ z. settled t.prios (subst_type qs z.gives)) same ∙ ap (settled t.prios) (sym fit.gives)))

      call_moves : (f : ℕ) (qs : List Prio) (es : List Term) (k : Body) (A : Type') → PriosIn (scope_at job (length t.prios)) qs → CallFits (setting_at job given) all r f qs es A → Wants k (settled t.prios A) →
          MovesTo job q u (steps.with_results s (results_of t.scope es) (steps.call_step s t fs k (slice_get job.program.procs f) qs))
      call_moves f qs es k A within fit rest =
          let callee = signed_by job.program.procs f fit.sig fit.is in
          results_move s (map (settled t.prios) (map (subst_type qs) fit.sig.params)) (results_of t.scope es) _ (results_have job t.prios all t.scope values es (map (subst_type qs) fit.sig.params) fit.arguments)
          (λ vs have. subst (λ z. MovesTo job q u (steps.call_step s t fs k z qs vs)) (sym callee.1)
          ((settled t.prios A, callee_fits f qs es A within fit callee.0 callee.1 callee.2 vs have, (w, rest, stack)), tt))

      -- one action, where the rest of the frame wants its value
      act_moves : (a : Act) (k : Body) (A : Type') (o : Option Outcome') → ActHas a (setting_at job given) all r A → ActIn a (scope_at job (length t.prios)) (length all) → Wants k (settled t.prios A) →
          Bears job (awaits_action t a) (act job s t fs a k None) → Handed job (awaits_action t a) o → MovesTo job q u (act job s t fs a k o)
      act_moves (ret e) k A o has within rest bears handed = result_moves s (settled t.prios A) (result_of t.scope e) _ (result e A has) (λ v h. (goes_on k (settled t.prios A) v rest h, tt))
      act_moves (spawn p (block at b)) k A o (B, has, e, few) within rest bears handed =
          spawn_moves p (block at b) k (settled t.prios B)
          (fits given p B all (map (settled t.prios) all) (record { declared = under.declared; meets = under.meets; scoped = within.0; own = refl }) has within.1 values (append-nil _) refl)
          (subst (λ z. Wants k (settled t.prios z)) e rest) bears
      act_moves (sync x) k A o (p, e, holds) within rest bears handed =
          let there = thread_there x (prio_of t.prios p) (settled t.prios A) values (settled_get job t.prios all x (thread p A) e) in
          let b : thread_in (slice_get t.scope x) ≡ Some there.0 = ap thread_in there.1 in
          subst (λ i. MovesTo job q u (steps.sync_step s t fs k i o)) (sym b) (join_moves k (prio_of t.prios p) (settled t.prios A) there.0 o rest there.2 (subst (λ i. Handed job i o) b handed))
      act_moves (call f qs es) k A o has within rest bears handed = call_moves f qs es k A within.1 has rest
      act_moves (do_block (block at b)) k A o has within rest bears handed =
          ((settled t.prios A, fits given r A all (map (settled t.prios) all) under has within values (append-nil _) refl, (w, rest, stack)), tt)
      act_moves input k A o has within rest bears handed = read_moves k (slice_get (inputs_of job.inputs s.path) s.reads) (subst (λ z. Wants k (settled t.prios z)) has rest)
      act_moves (output e) k A o has within rest bears handed = result_moves s int (result_of t.scope e) _ (result e int has.0) (λ v h. output_moves k (subst (λ z. Wants k (settled t.prios z)) has.1 rest) h)

      -- with the type that the frame's code was typed with
      module _ (T : Type') (gives : settled t.prios T ≡ w) where
        -- a branch, in the same scope
        stays : (c : Body) → BodyHas c (setting_at job given) all r T → BodyIn c (scope_at job (length t.prios)) (length all) → CodeFits job c t.scope t.prios [] q w
        stays c has within = fits given r T all (map (settled t.prios) all) under has within values (append-nil _) gives

        -- what is left, with one variable more
        wants : (c : Body) (A : Type') → BodyHas c (setting_at job given) (all ++ A ∷ []) r T → BodyIn c (scope_at job (length t.prios)) (length all + 1) → Wants c (settled t.prios A)
        wants c A has within =
            fits given r T (all ++ A ∷ []) (map (settled t.prios) all) under has (subst (BodyIn c (scope_at job (length t.prios))) (sym (length_push all A)) within) values (sym (map-append (settled t.prios) all (A ∷ []))) gives

        body_moves : (c : Body) (o : Option Outcome') → BodyHas c (setting_at job given) all r T → BodyIn c (scope_at job (length t.prios)) (length all) →
            Bears job (awaits_code t c) (run_code job s t fs c None) → Handed job (awaits_code t c) o → MovesTo job q u (run_code job s t fs c o)
        body_moves (bind at a k) o has within bears handed = act_moves a k has.0 o has.1 within.0 (wants k has.0 has.2 within.2) bears handed
        body_moves (ret_tail at x) o has within bears handed =
            result_moves s w (result_of t.scope x) _ (subst (λ z. Gives job z (result_of t.scope x)) gives (result x T has)) (λ v h. back_moves s fs v w stack h)
        body_moves (if_tail at x (block ata a) (block atb b)) o has within bears handed =
            result_moves s bool (result_of t.scope x) _ (result x bool has.0) (λ v h. if_moves (block ata a) (block atb b) (stays a has.1 within.1) (stays b has.2 within.2) h)
        body_moves (case_tail at x (block ata a) (block atb b)) o has within bears handed =
            result_moves s (settled t.prios (sum has.0 has.1)) (result_of t.scope x) _ (result x (sum has.0 has.1) has.2)
            (λ v h. case_moves (block ata a) (block atb b) (settled t.prios has.0) (settled t.prios has.1) (wants a has.0 has.3 within.2) (wants b has.1 has.4 within.3) h)

    code_moves : (c : Body) (o : Option Outcome') → CodeFits job c t.scope t.prios [] q w → Bears job (awaits_code t c) (run_code job s t fs c None) → Handed job (awaits_code t c) o → MovesTo job q u (run_code job s t fs c o)
    code_moves c o (fits given r T all have under has within values e gives) bears handed =
        body_moves given r all under (subst (AllHave job t.scope) (sym (append-nil have) ∙ e) values) T gives c o has within bears handed

  phase_moves : (s : State) (f : Phase) (o : Option Outcome') → PhaseHas job q f u → outcome_in f ≡ None → Bears job (awaits_phase f) (phase_step job s f None) → Handed job (awaits_phase f) o → MovesTo job q u (phase_step job s f o)
  phase_moves s (Fresh t) o h live bears handed = ((u, h, refl), tt)
  phase_moves s (Run t fs) o h live bears handed = code_moves s t fs h.0 h.2 t.code o h.1 bears handed
  phase_moves s (Failing k) o h live bears handed = (tt, tt)
  phase_moves s (Ended x) o h live bears handed = absurd (cc)

-- a thread that has not ended and is handed what it awaits makes a step, to a state of its type
pub step_moves : (job : Job) → IsChecked job → (q : ℕ) (u : Type') {p : List ℕ} {es : List Event} {s : State} → Ran job p es s → (o : Option Outcome') → PhaseHas job q s.phase u → outcome_in s.phase ≡ None → Handed job (awaits s) o → MovesTo job q u (step job s o)
step_moves job checked q u {s = s} d o h live handed = phase_moves job checked q u s s.phase o h live (λ m c a e k. born d a e k refl refl refl) handed
