-- Each row of the table of steps, from what the code knows when it has made it.
use Rattle.std.proofs.Common.{◌≡◌, ℕ, ◌+◌, ◌<◌, ℤ, List, [], ◌∷◌, ◌++◌, length, map, Option, Some, None, refl, sym, ap, ◌∙◌, subst}
use Rattle.std.specs.Prelude.{slice_get, IfSome}
use Rattle.std.specs.Option.{option_map}
use Rattle.std.proofs.lemmas.Option.{same_Some}
use Rattle.std.proofs.lemmas.Bool.{lt-ltb}
use Rattle.priml_syntax.specs.Paths.{child_path}
use Rattle.priml_syntax.specs.declared.event.Event.{Event}
use Rattle.priml_syntax.specs.declared.event.Event.TheVariants.{Plain, Spawn, Join, Read, Wrote, End}
use Rattle.priml_syntax.specs.declared.prio.Prio.{Prio}
use Rattle.priml_syntax.specs.declared.value.FaultKind.{FaultKind}
use Rattle.priml_syntax.specs.Inputs.{inputs_of}
use Rattle.priml_syntax.specs.Tree.{Term, Code, Body, bind, ret, spawn, sync, call, do_block, input, output, Routine}
use Rattle.priml_syntax.specs.Values.{Value', unit_value, int_value, left_value, right_value, thread_value, Outcome', returned, faulted}
use Rattle.core_steps.specs.declared.place.Turn.{Turn}
use Rattle.core_steps.specs.declared.place.Turn.TheVariants.{Bind as At}
use Rattle.core_steps.specs.declared.frame.Root.TheVariants.{Procedure}
use Rattle.core_steps.specs.Expressions.{result_of, results_of, AllGave}
use Rattle.core_steps.specs.Fields.{FrameFields, LocalFields, fresh, running, ended, state_of}
use Rattle.core_steps.specs.Inside.Locals.{number_in}
use Rattle.core_steps.specs.Moves.{Goes}
use Rattle.core_steps.specs.Inside.Moves.{CanStep, IsNext, past, bound_in, within_frame, called_frame, child_of}
use Rattle.core_steps.specs.Steps.{Job, Frame, Run, State, bound, with_result, with_results, call_step, read_step, output_step, sync_step, thread_in, prio_of}
use Rattle.core_steps.proofs.Opened.{body_past, opened_at, frame_opens}
use Rattle.core_steps.proofs.Moves.{in_phase, stands, goes_to, faults, binds, calls, runs_block, spawns, after_spawn, not_stuck, running_opens}

-- the same step, in other words
pub made : (job : Job) (l : LocalFields) (w : Option Outcome') (e d : Event) (a b : Option LocalFields) (l' m : LocalFields) → Goes job l w e a l' → d ≡ e → b ≡ a → m ≡ l' → Goes job l w d b m
made job l w e d a b l' m g same_event same_child same_fields =
    record {
      old = g.old;
      move = g.move;
      opens = g.opens;
      steps = g.steps;
      event = g.event ∙ sym same_event;
      next = ap (state_of job.program) same_fields ∙ g.next;
      born = ap (option_map (state_of job.program)) same_child ∙ g.born;
      new = subst (λ o. IfSome o (λ (c : LocalFields). c.steps ≡ 0)) (sym same_child) g.new;
    }

module _ (job : Job) (l : LocalFields) where
  -- a value is bound
  pub ret_row : (e : Term) (v : Value') → CanStep job l None → l.mode ≡ running → IsNext job.program l.top (ret e) → result_of l.top.scope e ≡ Some (returned v) → Goes job l None Plain None (record l { top = bound_in l.top v })
  ret_row e v can mode (at, k, body) gives =
      let c = bind at (ret e) k in
      let s = stands job l None c can mode body in
      let st = in_phase l (Run (opened_at l.top c) s.below) in
      binds job l None at (ret e) k s Plain v mode body (ap (λ o. with_result st o (λ x. Some (record { event = Plain; next = in_phase l (Run (bound (opened_at l.top c) k x) s.below); child = None }))) gives)

  pub ret_fault : (e : Term) (k : FaultKind) → CanStep job l None → l.mode ≡ running → IsNext job.program l.top (ret e) → result_of l.top.scope e ≡ Some (faulted k) → Goes job l None End None (record l { mode = ended (faulted k) })
  ret_fault e k can mode (at, body, is) gives =
      let c = bind at (ret e) body in
      let s = stands job l None c can mode is in
      let st = in_phase l (Run (opened_at l.top c) s.below) in
      faults job l None c s k (ap (λ o. with_result st o (λ x. Some (record { event = Plain; next = in_phase l (Run (bound (opened_at l.top c) body x) s.below); child = None }))) gives)

  -- a number is written
  pub output_row : (e : Term) (v : Value') (z : ℤ) → CanStep job l None → l.mode ≡ running → IsNext job.program l.top (output e) → result_of l.top.scope e ≡ Some (returned v) → number_in v ≡ Some z → Goes job l None (Wrote z) None (record l { top = bound_in l.top unit_value })
  output_row e (int_value y) z can mode (at, k, body) gives number =
      let c = bind at (output e) k in
      let s = stands job l None c can mode body in
      let st = in_phase l (Run (opened_at l.top c) s.below) in
      let same : y ≡ z = same_Some y z number in
      subst (λ x. Goes job l None (Wrote x) None (record l { top = bound_in l.top unit_value })) same
      (binds job l None at (output e) k s (Wrote y) unit_value mode body (ap (λ o. with_result st o (output_step st (opened_at l.top c) s.below k)) gives))
  output_row e v z can mode next gives number = absurd (cc)

  not_written : (st : State) (t : Frame) (fs : List Frame) (k : Body) (v : Value') → number_in v ≡ None → output_step st t fs k v ≡ None
  not_written st t fs k (int_value z) e = absurd (cc)
  not_written st t fs k v e = refl

  pub output_stuck : (e : Term) (v : Value') → CanStep job l None → l.mode ≡ running → IsNext job.program l.top (output e) → result_of l.top.scope e ≡ Some (returned v) → number_in v ≡ None → ⊥
  output_stuck e v can mode (at, body, is) gives wrong =
      let c = bind at (output e) body in
      not_stuck job l None c can mode is (λ fs. ap (λ o. with_result (in_phase l (Run (opened_at l.top c) fs)) o (output_step (in_phase l (Run (opened_at l.top c) fs)) (opened_at l.top c) fs body)) gives ∙ not_written (in_phase l (Run (opened_at l.top c) fs)) (opened_at l.top c) fs body v wrong)

  -- an input is read, or none is left
  pub input_row : (z : ℤ) → CanStep job l None → l.mode ≡ running → IsNext job.program l.top input → slice_get (inputs_of job.inputs l.path) l.reads ≡ Some z → Goes job l None Read None (record l { reads = l.reads + 1; top = bound_in l.top (right_value (int_value z)) })
  input_row z can mode (at, k, body) has =
      let c = bind at input k in
      let s = stands job l None c can mode body in
      let st = in_phase l (Run (opened_at l.top c) s.below) in
      let v = right_value (int_value z) in
      let g = binds job l None at input k s Read v mode body in
      let l' = record l { reads = l.reads + 1; top = bound_in l.top v } in
      let next = frame_opens job.program (bound_in l.top v) k (body_past job.program l.top at input k (l.top.scope ++ v ∷ []) body) in
      goes_to job l None c s (record { event = Read; next = in_phase l' (Run (bound (opened_at l.top c) k v) s.below); child = None }) Read None l'
      (ap (read_step st (opened_at l.top c) s.below k) has) refl (running_opens job.program l' (opened_at (bound_in l.top v) k) s.below mode next s.below_are) refl tt

  pub input_ended : CanStep job l None → l.mode ≡ running → IsNext job.program l.top input → slice_get (inputs_of job.inputs l.path) l.reads ≡ None → Goes job l None Read None (record l { top = bound_in l.top (left_value unit_value) })
  input_ended can mode (at, k, body) has =
      let c = bind at input k in
      let s = stands job l None c can mode body in
      let st = in_phase l (Run (opened_at l.top c) s.below) in
      binds job l None at input k s Read (left_value unit_value) mode body (ap (read_step st (opened_at l.top c) s.below k) has)

  -- a call, whose procedure is there, since the step is made
  pub call_row : (g : ℕ) (ps : List Prio) (es : List Term) (vs : List Value') → CanStep job l None → l.mode ≡ running → IsNext job.program l.top (call g ps es) → results_of l.top.scope es ≡ Some (AllGave vs) →
      Goes job l None Plain None (record l { top = called_frame g vs (map (prio_of l.top.prios) ps); below = l.below ++ past l.top ∷ [] })
  call_row g ps es vs can mode (at, k, body) gives = go (slice_get job.program.procs g) refl
    where
      c : Body
      c = bind at (call g ps es) k

      go : (o : Option Routine) → slice_get job.program.procs g ≡ o → Goes job l None Plain None (record l { top = called_frame g vs (map (prio_of l.top.prios) ps); below = l.below ++ past l.top ∷ [] })
      go (Some r) q = calls job l None at g ps es k (stands job l None (bind at (call g ps es) k) can mode body) r vs mode body q gives
      go None q =
          absurd (not_stuck job l None (bind at (call g ps es) k) can mode body (λ fs.
          let st = in_phase l (Run (opened_at l.top (bind at (call g ps es) k)) fs) in
          let t = opened_at l.top (bind at (call g ps es) k) in
          ap (λ o. with_results st o (call_step st t fs k (slice_get job.program.procs g) ps)) gives ∙ ap (λ o. call_step st t fs k o ps vs) q))

  -- a sync awaits a thread
  pub join_row : (x : ℕ) (b : List ℕ) (v : Value') → CanStep job l (Some (returned v)) → l.mode ≡ running → IsNext job.program l.top (sync x) → thread_in (slice_get l.top.scope x) ≡ Some b → Goes job l (Some (returned v)) (Join b) None (record l { top = bound_in l.top v })
  join_row x b v can mode (at, k, body) names =
      let c = bind at (sync x) k in
      let s = stands job l (Some (returned v)) c can mode body in
      let st = in_phase l (Run (opened_at l.top c) s.below) in
      binds job l (Some (returned v)) at (sync x) k s (Join b) v mode body (ap (λ o. sync_step st (opened_at l.top c) s.below k o (Some (returned v))) names)

  -- a block is entered
  pub block_row : (b : Code) → CanStep job l None → l.mode ≡ running → IsNext job.program l.top (do_block b) → Goes job l None Plain None (record l { top = within_frame l.top (At l.top.done); below = l.below ++ past l.top ∷ [] })
  block_row b can mode (at, k, body) = runs_block job l None at b k (stands job l None (bind at (do_block b) k) can mode body) mode body

  -- a thread is spawned
  pub spawn_row : (q : Prio) (b : Code) → CanStep job l None → l.mode ≡ running → IsNext job.program l.top (spawn q b) → length l.path < 32 → l.children < 4294967295 → Goes job l None Spawn (Some (child_of l (prio_of l.top.prios q))) (after_spawn l q)
  spawn_row q b can mode (at, k, body) deep many = spawns job l None at q b k (stands job l None (bind at (spawn q b) k) can mode body) mode body (rw (lt-ltb (length l.path) 32 deep, lt-ltb l.children 4294967295 many) refl)

  pub child_made : (q : Prio) (path : List ℕ) (number : ℕ) (top : FrameFields) (below : List FrameFields) → path ≡ child_path l.path l.children → number ≡ prio_of l.top.prios q → top ≡ within_frame l.top (At l.top.done) → below ≡ [] →
      ◌≡◌ {A = Option LocalFields} (Some (record { path = path; prio = number; reads = 0; children = 0; steps = 0; mode = fresh; top = top; below = below })) (Some (child_of l (prio_of l.top.prios q)))
  child_made q path number top below a b c d = rw (a, b, c, d) refl

  pub spawner_made : (q : Prio) (name : List ℕ) (number : ℕ) (m : LocalFields) → m ≡ record l { top = bound_in l.top (thread_value name number) } → name ≡ child_path l.path l.children → number ≡ prio_of l.top.prios q →
      record m { children = m.children + 1 } ≡ after_spawn l q
  spawner_made q name number m is a b = ap (λ (x : LocalFields). record x { children = x.children + 1 }) is ∙ ap (λ v. record l { children = l.children + 1; top = bound_in l.top v }) (ap (λ p. thread_value p number) a ∙ ap (thread_value (child_path l.path l.children)) b)

-- the frame of a procedure
pub called_made : (g : ℕ) (turns : List Turn) (vs : List Value') (ps qs : List ℕ) → turns ≡ [] → ps ≡ qs → record { root = Procedure g; turns = turns; done = 0; scope = vs; prios = ps } ≡ called_frame g vs qs
called_made g turns vs ps qs a b = rw (a, b) refl
