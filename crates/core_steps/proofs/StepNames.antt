-- The threads that a state names: what a step and its child can name, and that each stands left of the next child.
use Rattle.std.proofs.Common.{◌≡◌, ℕ, ◌+◌, List, [], ◌∷◌, ◌++◌, Option, Some, None, length, map, refl, sym, ap₂, subst, arith, Bool, true, false, if◌then◌else◌}
use Rattle.std.specs.Prelude.{slice_get, nat_lt, ℤ, ◌&&◌}
use Rattle.std.proofs.lemmas.Option.{none-some}
use Rattle.priml_syntax.specs.declared.event.Event.{Event}
use Rattle.priml_syntax.specs.declared.event.Event.TheVariants.{Start, Plain, Spawn, Join, Read, Wrote, End}
use Rattle.priml_syntax.specs.declared.prio.Prio.{Prio}
use Rattle.priml_syntax.specs.declared.value.FaultKind.TheVariants.{Depth}
use Rattle.priml_syntax.specs.Tree.{Code, Body, bind, ret_tail, if_tail, case_tail, Act, ret, spawn, sync, call, do_block, input, output, inside, Routine}
use Rattle.priml_syntax.specs.Values.{Value', unit_value, bool_value, int_value, left_value, right_value, thread_value, Outcome', returned, faulted}
use Rattle.priml_syntax.specs.Paths.{child_path, Left, Before}
use Rattle.priml_syntax.specs.Events.{one_spawn}
use Rattle.priml_syntax.specs.Inputs.{inputs_of}
use Rattle.core_steps.specs.Expressions.{result_of, results_of, Results, AllGave, OneFault}
use Rattle.core_steps.specs.Steps as steps
use Rattle.core_steps.specs.Steps.{Job, Frame, Phase, Fresh, Run, Failing, Ended, State, Moved, step, phase_step, run_code, act, awaits, awaits_phase, awaits_code, awaits_action, prio_of, thread_in, bound, Ran, root, born, alone, joined}
use Rattle.core_steps.proofs.Order.{left_longer, left_through, left_sibling, before_from_left}
use Rattle.core_steps.proofs.StepFacts.{spawned, step_facts, child_facts}
use Rattle.core_steps.proofs.Named.{named}
use Rattle.core_steps.proofs.Names.{OfValue, OfScope, OfFrames, OfOutcome, OfGiven, OfResults, OfPhase, value_map, scope_map, frames_map, outcome_map, phase_map, scope_push, result_names, results_names, variable_thread}

abbrev pub OfChild : (List ℕ → Type 0) → Option State → Type 0
OfChild P None = Unit {0}
OfChild P (Some c) = OfPhase P c.phase

abbrev After : (List ℕ → Type 0) → (Event → List ℕ → Type 0) → Option Moved → Type 0
After P Q None = Unit {0}
After P Q (Some m) = OfPhase (Q m.event) m.next.phase × OfChild P m.child

module _ (P : List ℕ → Type 0) (Q : Event → List ℕ → Type 0) (weaker : (e : Event) (b : List ℕ) → P b → Q e b) where
  run_names : (e : Event) (t : Frame) (fs : List Frame) → OfScope P t.scope → OfFrames P fs → OfPhase (Q e) (Run t fs)
  run_names e t fs a b = (scope_map P (Q e) (weaker e) t.scope a, frames_map P (Q e) (weaker e) fs b)

  bound_names : (e : Event) (t : Frame) (fs : List Frame) (k : Body) (v : Value') → OfScope P t.scope → OfFrames P fs → OfValue (Q e) v → OfPhase (Q e) (Run (bound t k v) fs)
  bound_names e t fs k v a b c = (scope_push (Q e) t.scope v (scope_map P (Q e) (weaker e) t.scope a) c, frames_map P (Q e) (weaker e) fs b)

  with_names : (s : State) (o : Option Outcome') (f : Value' → Option Moved) → OfGiven P o → ((v : Value') → OfValue P v → After P Q (f v)) → After P Q (steps.with_result s o f)
  with_names s None f h k = tt
  with_names s (Some (faulted x)) f h k = (tt, tt)
  with_names s (Some (returned v)) f h k = k v h

  with_all_names : (s : State) (o : Option Results) (f : List Value' → Option Moved) → OfResults P o → ((vs : List Value') → OfScope P vs → After P Q (f vs)) → After P Q (steps.with_results s o f)
  with_all_names s None f h k = tt
  with_all_names s (Some (OneFault x)) f h k = (tt, tt)
  with_all_names s (Some (AllGave vs)) f h k = k vs h

  back_names : (s : State) (fs : List Frame) (v : Value') → OfFrames P fs → OfValue P v → After P Q (steps.back_to s fs v)
  back_names s [] v a h = (value_map P (Q End) (weaker End) v h, tt)
  back_names s (f ∷ fs) v a h = (bound_names Plain f fs f.code v a.0 a.1 (value_map P (Q Plain) (weaker Plain) v h), tt)

  spawn_names : (s : State) (t : Frame) (fs : List Frame) (p : Prio) (b : Code) (k : Body) → OfScope P t.scope → OfFrames P fs → Q Spawn (child_path s.path s.children) → After P Q (steps.spawn_step s t fs p b k)
  spawn_names s t fs p b k a c n = go (nat_lt (length s.path) 32 && nat_lt s.children 4294967295)
    where
      go : (z : Bool) → After P Q (if z then Some (spawned s t fs p b k) else steps.fault_step s Depth)
      go true = (bound_names Spawn t fs k (thread_value (child_path s.path s.children) (prio_of t.prios p)) a c n, a)
      go false = (tt, tt)

  join_names : (s : State) (t : Frame) (fs : List Frame) (k : Body) (b : List ℕ) (w : Option Outcome') → OfScope P t.scope → OfFrames P fs → OfGiven (Q (Join b)) w → After P Q (steps.join_step s t fs k b w)
  join_names s t fs k b None a c h = tt
  join_names s t fs k b (Some (returned v)) a c h = (bound_names (Join b) t fs k v a c h, tt)
  join_names s t fs k b (Some (faulted x)) a c h = (tt, tt)

  sync_names : (s : State) (t : Frame) (fs : List Frame) (k : Body) (b : Option (List ℕ)) (w : Option Outcome') → OfScope P t.scope → OfFrames P fs → ((c : List ℕ) → b ≡ Some c → OfGiven (Q (Join c)) w) → After P Q (steps.sync_step s t fs k b w)
  sync_names s t fs k None w a c h = tt
  sync_names s t fs k (Some b) w a c h = join_names s t fs k b w a c (h b refl)

  call_names : (s : State) (t : Frame) (fs : List Frame) (k : Body) (f : Option Routine) (ps : List Prio) (vs : List Value') → OfScope P t.scope → OfFrames P fs → OfScope P vs → After P Q (steps.call_step s t fs k f ps vs)
  call_names s t fs k None ps vs a b c = tt
  call_names s t fs k (Some f) ps vs a b c = (run_names Plain (record { code = inside f.body; scope = vs; prios = map (prio_of t.prios) ps }) (record { code = k; scope = t.scope; prios = t.prios } ∷ fs) c (a, b), tt)

  read_names : (s : State) (t : Frame) (fs : List Frame) (k : Body) (o : Option ℤ) → OfScope P t.scope → OfFrames P fs → After P Q (steps.read_step s t fs k o)
  read_names s t fs k None a b = (bound_names Read t fs k (left_value unit_value) a b tt, tt)
  read_names s t fs k (Some z) a b = (bound_names Read t fs k (right_value (int_value z)) a b tt, tt)

  output_names : (s : State) (t : Frame) (fs : List Frame) (k : Body) (v : Value') → OfScope P t.scope → OfFrames P fs → After P Q (steps.output_step s t fs k v)
  output_names s t fs k (int_value z) a b = (bound_names (Wrote z) t fs k unit_value a b tt, tt)
  output_names s t fs k v a b = tt

  if_names : (s : State) (t : Frame) (fs : List Frame) (x y : Code) (v : Value') → OfScope P t.scope → OfFrames P fs → After P Q (steps.if_step s t fs x y v)
  if_names s t fs x y (bool_value true) a b = (run_names Plain t fs a b, tt)
  if_names s t fs x y (bool_value false) a b = (run_names Plain t fs a b, tt)
  if_names s t fs x y v a b = tt

  case_names : (s : State) (t : Frame) (fs : List Frame) (x y : Code) (v : Value') → OfScope P t.scope → OfFrames P fs → OfValue P v → After P Q (steps.case_step s t fs x y v)
  case_names s t fs x y (left_value v) a b h = (bound_names Plain t fs (inside x) v a b (value_map P (Q Plain) (weaker Plain) v h), tt)
  case_names s t fs x y (right_value v) a b h = (bound_names Plain t fs (inside y) v a b (value_map P (Q Plain) (weaker Plain) v h), tt)
  case_names s t fs x y v a b h = tt

  action_names : (job : Job) (s : State) (t : Frame) (fs : List Frame) (x : Act) (k : Body) (w : Option Outcome') → OfScope P t.scope → OfFrames P fs →
      ((b : List ℕ) → awaits_action t x ≡ Some b → OfGiven (Q (Join b)) w) → Q Spawn (child_path s.path s.children) → After P Q (act job s t fs x k w)
  action_names job s t fs (ret e) k w a b h n = with_names s (result_of t.scope e) _ (result_names P t.scope e a) (λ v g. (bound_names Plain t fs k v a b (value_map P (Q Plain) (weaker Plain) v g), tt))
  action_names job s t fs (spawn p x) k w a b h n = spawn_names s t fs p x k a b n
  action_names job s t fs (sync x) k w a b h n = sync_names s t fs k (thread_in (slice_get t.scope x)) w a b h
  action_names job s t fs (call f ps es) k w a b h n = with_all_names s (results_of t.scope es) _ (results_names P t.scope es a) (λ vs g. call_names s t fs k (slice_get job.program.procs f) ps vs a b g)
  action_names job s t fs (do_block x) k w a b h n = (run_names Plain (record { code = inside x; scope = t.scope; prios = t.prios }) (record { code = k; scope = t.scope; prios = t.prios } ∷ fs) a (a, b), tt)
  action_names job s t fs input k w a b h n = read_names s t fs k (slice_get (inputs_of job.inputs s.path) s.reads) a b
  action_names job s t fs (output e) k w a b h n = with_names s (result_of t.scope e) _ (result_names P t.scope e a) (λ v g. output_names s t fs k v a b)

  code_names : (job : Job) (s : State) (t : Frame) (fs : List Frame) (c : Body) (w : Option Outcome') → OfScope P t.scope → OfFrames P fs →
      ((b : List ℕ) → awaits_code t c ≡ Some b → OfGiven (Q (Join b)) w) → Q Spawn (child_path s.path s.children) → After P Q (run_code job s t fs c w)
  code_names job s t fs (bind at x k) w a b h n = action_names job s t fs x k w a b h n
  code_names job s t fs (ret_tail at e) w a b h n = with_names s (result_of t.scope e) _ (result_names P t.scope e a) (λ v g. back_names s fs v b g)
  code_names job s t fs (if_tail at e x y) w a b h n = with_names s (result_of t.scope e) _ (result_names P t.scope e a) (λ v g. if_names s t fs x y v a b)
  code_names job s t fs (case_tail at e x y) w a b h n = with_names s (result_of t.scope e) _ (result_names P t.scope e a) (λ v g. case_names s t fs x y v a b g)

  phase_names : (job : Job) (s : State) (f : Phase) (w : Option Outcome') → OfPhase P f → ((b : List ℕ) → awaits_phase f ≡ Some b → OfGiven (Q (Join b)) w) → Q Spawn (child_path s.path s.children) → After P Q (phase_step job s f w)
  phase_names job s (Fresh t) w a h n = (run_names Start t [] a tt, tt)
  phase_names job s (Run t fs) w a h n = code_names job s t fs t.code w a.0 a.1 h n
  phase_names job s (Failing k) w a h n = (tt, tt)
  phase_names job s (Ended o) w a h n = tt

-- what a step and its child name was named before, or by the outcome that was handed in, or is the new child: where P holds of
-- each thread that the state names, it holds of each that the child names, and Q at the step's event of each that the next state names
pub step_names : (P : List ℕ → Type 0) (Q : Event → List ℕ → Type 0) → ((e : Event) (b : List ℕ) → P b → Q e b) → (job : Job) (s : State) (w : Option Outcome') (m : Moved) →
    OfPhase P s.phase → ((b : List ℕ) → awaits s ≡ Some b → OfGiven (Q (Join b)) w) → Q Spawn (child_path s.path s.children) → step job s w ≡ Some m → OfPhase (Q m.event) m.next.phase × OfChild P m.child
step_names P Q f job s w m a h n e = let x : After P Q (step job s w) = phase_names P Q f job s s.phase w a h n in rw e at x

-- the thread that a state awaits is one that it names
pub awaited_named : (P : List ℕ → Type 0) (s : State) (b : List ℕ) → OfPhase P s.phase → awaits s ≡ Some b → P b
awaited_named P s b = in_phase s.phase
  where
    in_action : (t : Frame) (x : Act) → OfScope P t.scope → awaits_action t x ≡ Some b → P b
    in_action t (sync x) a e = variable_thread P t.scope x b a e
    in_action t x a e = absurd (none-some b e)

    in_code : (t : Frame) (c : Body) → OfScope P t.scope → awaits_code t c ≡ Some b → P b
    in_code t (bind at x k) a e = in_action t x a e
    in_code t c a e = absurd (none-some b e)

    in_phase : (f : Phase) → OfPhase P f → awaits_phase f ≡ Some b → P b
    in_phase (Run t fs) a e = in_code t t.code a.0 e
    in_phase f a e = absurd (none-some b e)

-- the thread stands left of the next child
abbrev pub LeftOfNext : State → List ℕ → Type 0
LeftOfNext s b = Left b (child_path s.path s.children)

-- the thread stands left of the next child after the event
abbrev LeftAfter : State → Event → List ℕ → Type 0
LeftAfter s e b = Left b (child_path s.path (s.children + one_spawn e))

left_after : (s : State) (e : Event) (b : List ℕ) → LeftOfNext s b → LeftAfter s e b
left_after s e b h = go e
  where
    stay : Left b (child_path s.path (s.children + 0))
    stay = let z : s.children ≡ s.children + 0 = omega arith in subst (λ k. Left b (child_path s.path k)) z h

    go : (x : Event) → LeftAfter s x b
    go Spawn = left_through b (child_path s.path s.children) [] (child_path s.path (s.children + 1)) (left_longer b (child_path s.path s.children) [] h) (left_sibling s.path s.children (s.children + 1) (omega arith))
    go x = stay

next_ordered : (job : Job) (t s : State) (w : Option Outcome') (m : Moved) → OfPhase (LeftOfNext t) t.phase → ((b : List ℕ) → awaits t ≡ Some b → OfGiven (LeftAfter t (Join b)) w) → step job t w ≡ Some m → s ≡ m.next → OfPhase (LeftOfNext s) s.phase
next_ordered job t s w m a g e q =
    let n = step_names (LeftOfNext t) (LeftAfter t) (left_after t) job t w m a g (left_sibling t.path t.children (t.children + 1) (omega arith)) e in
    let f = step_facts job t w m e in
    let h : (b : List ℕ) → LeftAfter t m.event b → LeftOfNext m.next b = λ b l. subst (λ z. Left b z) (sym (ap₂ child_path f.path f.children)) l in
    subst (λ z. OfPhase (LeftOfNext z) z.phase) (sym q) (phase_map (LeftAfter t m.event) (LeftOfNext m.next) h m.next.phase n.0)

child_ordered : (job : Job) (t c s : State) (m : Moved) → OfPhase (LeftOfNext t) t.phase → step job t None ≡ Some m → m.child ≡ Some c → s ≡ c → OfPhase (LeftOfNext s) s.phase
child_ordered job t c s m a e g q =
    let n = step_names (LeftOfNext t) (LeftAfter t) (left_after t) job t None m a (λ b z. tt) (left_sibling t.path t.children (t.children + 1) (omega arith)) e in
    let k : OfPhase (LeftOfNext t) c.phase = (let z : OfChild (LeftOfNext t) m.child = n.1 in rw g at z) in
    let p : c.path ≡ child_path t.path t.children = (child_facts job t None m c e g).path in
    let h : (b : List ℕ) → LeftOfNext t b → LeftOfNext c b = λ b l. left_longer b c.path (c.children ∷ []) (subst (λ z. Left b z) (sym p) l) in
    subst (λ z. OfPhase (LeftOfNext z) z.phase) (sym q) (phase_map (LeftOfNext t) (LeftOfNext c) h c.phase k)

handed_ordered : (t u : State) (b : List ℕ) (o : Outcome') → OfPhase (LeftOfNext t) t.phase → OfPhase (LeftOfNext u) u.phase → u.path ≡ b → awaits t ≡ Some b → u.phase ≡ Ended o → (c : List ℕ) → OfOutcome (LeftAfter t (Join c)) o
handed_ordered t u b o x y p a e c =
    let n : Left b (child_path t.path t.children) = awaited_named (LeftOfNext t) t b x a in
    let z : OfOutcome (LeftOfNext u) o = subst (λ f. OfPhase (LeftOfNext u) f) e y in
    outcome_map (LeftOfNext u) (LeftAfter t (Join c)) (λ v l. left_after t (Join c) v (left_through v b (u.children ∷ []) (child_path t.path t.children) (subst (λ q. Left v (q ++ u.children ∷ [])) p l) n)) o z

-- each thread that a state names stands left of the next child
pub names_left : {job : Job} {p : List ℕ} {es : List Event} {s : State} → Ran job p es s → OfPhase (LeftOfNext s) s.phase
names_left (root g a b c) = subst (λ z. OfPhase (LeftOfNext z) z.phase) (sym c) tt
names_left {job} {s} (born {t} {c} {m} d a h g e f i) = child_ordered job t c s m (names_left d) h g i
names_left {job} {s} (alone {t} {m} d a h e g) = next_ordered job t s None m (names_left d) (λ b z. tt) h g
names_left {job} {s} (joined {b} {t} {u} {o} {m} d d2 a e h i g) = next_ordered job t s (Some o) m (names_left d) (λ c z. handed_ordered t u b o (names_left d) (names_left d2) (named d2).path a e c) h g

-- so it comes before the thread in the order of waiting
pub names_before : {job : Job} {p : List ℕ} {es : List Event} {s : State} → Ran job p es s → OfPhase (λ b. Before b p) s.phase
names_before {p} {s} d = phase_map (LeftOfNext s) (λ b. Before b p) (λ b l. subst (Before b) (named d).path (before_from_left b s.path (s.children ∷ []) l)) s.phase (names_left d)
