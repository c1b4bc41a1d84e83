-- A step of a slot is the next step of its thread, and leads from a reached configuration to the one that the choice of the thread leads to.
use Rattle.std.proofs.Common.{◌≡◌, ℕ, ◌+◌, ◌<◌, List, [], ◌∷◌, ◌++◌, Option, Some, None, length, map, refl, sym, ◌∙◌, ap, ap₂, subst, Bool, true, false, if◌then◌else◌}
use Rattle.std.specs.Prelude.{Result, Ok, Err, IfOk, IfSome, OnOk, OnErr, slice_index_or, slice_set}
use Rattle.std.specs.Option.{option_map}
use Rattle.std.specs.List.{AllByRecursion, HoldsAt}
use Rattle.std.proofs.lemmas.List.{length_push}
use Rattle.std.proofs.lemmas.Option.{same_Some, none-some}
use Rattle.priml_syntax.specs.declared.event.Event.{Event}
use Rattle.priml_syntax.specs.Values.{Outcome'}
use Rattle.priml_syntax.specs.Paths.{same_path}
use Rattle.core_steps.specs.declared.slot.Slot.{Slot}
use Rattle.core_steps.specs.declared.local.Made.{Made as TheMade}
use Rattle.core_steps.specs.Fields.{LocalFields, read_local, state_of}
use Rattle.core_steps.specs.Inside.Locals.{read_boxed}
use Rattle.core_steps.specs.Locals.{IsLocal, IsFed, ended_with}
use Rattle.core_steps.specs.Moves.{Goes}
use Rattle.core_steps.specs.Determined.{Fed, events_of}
use Rattle.core_steps.specs.Steps.{Job, State, step, awaits, outcome_in, Ran}
use Rattle.core_steps.specs.Config.{Thread, thread_by_path, handed, put, with_child, after}
use Rattle.core_steps.specs.Configs.{SlotFields, read_slot, threads_from, IsCounted, SlotsRise, AreSlots, Advanced, Advances}
use Rattle.core_steps.specs.Inside.Configs.{slot_at, slot_put, with_slot, SlotNeeds, JoinsAt, StandsAt, StepsAt}
use Rattle.core_steps.proofs.StepLaws.{state_path}
use Rattle.core_steps.proofs.StepFacts.{step_facts}
use Rattle.core_steps.proofs.Threads.{found_path}
use Rattle.core_steps.proofs.Closed.{Closed, Choice, ended_given, choice_followed, events_moved}
use Rattle.core_steps.proofs.Starts.{reached_closed, reached_on}
use Rattle.core_steps.proofs.Slots.{Stands, AllStand, all_stand, all_read, path_stands, ended_stands, slots_rise}
use Rattle.core_steps.proofs.Choices.{found_thread, chosen_is}
use Rattle.core_steps.proofs.Placed.{slot_set, slot_kept, put_rises, put_each, added_each, put_stands, added_stands}

-- the slot at an index
pub at_index : (xs ys : List Slot) (p : List ℕ) (i : ℕ) (s : Slot) → xs ≡ ys → HoldsAt (λ (y : Slot). Some (read_slot y) ≡ slot_at (map read_slot xs) p) xs i → s ≡ slice_index_or ys i s → slot_at (map read_slot ys) p ≡ Some (read_slot s)
at_index xs ys p i s same h e =
    let g : HoldsAt (λ (y : Slot). Some (read_slot y) ≡ slot_at (map read_slot ys) p) ys i = subst (λ zs. HoldsAt (λ (y : Slot). Some (read_slot y) ≡ slot_at (map read_slot zs) p) zs i) same h in
    sym (ap (λ y. Some (read_slot y)) e ∙ g s)

pub found_there : (xs ys : List Slot) (p : List ℕ) (i : ℕ) (s : Slot) → ys ≡ xs → StandsAt xs p i → s ≡ slice_index_or ys i s → slot_at (map read_slot xs) p ≡ Some (read_slot s)
found_there xs ys p i s same stands at = ap (λ zs. slot_at (map read_slot zs) p) (sym same) ∙ at_index xs ys p i s (sym same) stands.1 at

-- what holds of each slot holds of that of a path
pub each_slot : (P : SlotFields → Type 0) (ss : List SlotFields) (p : List ℕ) (s : SlotFields) → AllByRecursion P ss → slot_at ss p ≡ Some s → P s
each_slot P [] p s a e = absurd (none-some s e)
each_slot P (x ∷ ss) p s a e = go (same_path x.local.path p) (each_slot P ss p s a.1) e
  where
    go : (b : Bool) → (slot_at ss p ≡ Some s → P s) → (if b then Some x else slot_at ss p) ≡ Some s → P s
    go true f h = subst P (same_Some x s h) a.0
    go false f h = f h

-- what the step of a slot asks
module _ (job : Job) (ss : List SlotFields) (c : AreSlots job ss) (p : List ℕ) (s : SlotFields) (found : slot_at ss p ≡ Some s) where
  thread : (t : Thread) × (thread_by_path c.threads p ≡ Some t) × Stands job.program s t
  thread = found_thread job ss c.threads p s c.reads found

  pub slot_counted : s.local.steps ≡ length s.events
  slot_counted = each_slot IsCounted ss p s c.counted found

  pub slot_local : IsLocal job s.local
  slot_local =
      let t = thread in
      let ran : Ran job p t.0.events t.0.state = Closed.ran (reached_closed job c.threads c.reached) p t.0 t.1 in
      record {
        state = t.0.state;
        opens = t.2.state;
        determined = (t.0.events, ap length (sym t.2.events) ∙ sym slot_counted, subst (λ q. Ran job q t.0.events t.0.state) (sym (path_stands job.program s t.0 t.2 ∙ found_path c.threads p t.0 t.1)) ran);
      }

  module _ (b : Option (List ℕ)) (w : Option Outcome') (told : SlotNeeds job ss p b w) where
    state_told : (x : State) → state_of job.program s.local ≡ Some x → (outcome_in x.phase ≡ None) × (awaits x ≡ b) × (handed c.threads b ≡ Some w)
    state_told x is =
        let u = told c.threads c.reads in
        let t = thread in
        let threads : t.0 ≡ u.0 = same_Some t.0 u.0 (sym t.1 ∙ u.1) in
        let same : u.0.state ≡ x = ap (λ y. y.state) (sym threads) ∙ same_Some t.0.state x (sym t.2.state ∙ is) in
        (ap (λ y. outcome_in y.phase) (sym same) ∙ u.2, ap awaits (sym same) ∙ u.3, u.4)

    pub slot_live : ended_with s.local.mode ≡ None
    slot_live = let t = thread in ended_stands job.program s t.0 t.2 ∙ (state_told t.0.state t.2.state).0

    pub slot_joins : JoinsAt job s.local b
    slot_joins x is = (state_told x is).1

    pub slot_fed : IsFed job s.local w
    slot_fed x is = let h = state_told x is in go b h.1 h.2
      where
        go : (b : Option (List ℕ)) → awaits x ≡ b → handed c.threads b ≡ Some w → Fed job x w
        go None a h = subst (Fed job x) (same_Some None w h) a
        go (Some d) a h =
            let u = ended_given c.threads d w h in
            subst (Fed job x) (sym u.4) (d, a, (u.0.events, u.0.state, Closed.ran (reached_closed job c.threads c.reached) d u.0 u.2, u.3))

-- what it leaves
goes_path : (job : Job) (l : LocalFields) (w : Option Outcome') (e : Event) (child : Option LocalFields) (l' : LocalFields) → Goes job l w e child l' → l.path ≡ l'.path
goes_path job l w e child l' g = sym (state_path job.program l g.old g.opens) ∙ (sym (step_facts job g.old w g.move g.steps).path ∙ state_path job.program l' g.move.next g.next)

steps_at : {E : Type 0} (job : Job) (xs : List Slot) (p : List ℕ) (w : Option Outcome') (i : ℕ) (s s' : Slot) (r : Result TheMade E) → SlotsRise (map read_slot xs) → i < length xs → s ≡ slice_index_or xs i s → slot_at (map read_slot xs) p ≡ Some (read_slot s) →
    IfOk r (λ m. Goes job (read_local s.local) w m.event (option_map read_boxed m.child) (read_local s'.local)) → IfOk r (λ m. s'.events.items ≡ s.events.items ++ m.event ∷ []) → OnOk r (s'.local.steps ≡ s.local.steps + 1) → IfOk r (λ m. StepsAt job (map read_slot xs) p w m (map read_slot (slice_set xs i s')))
steps_at job xs p w i s s' (Err e) rise l at found g es n = tt
steps_at job xs p w i s s' (Ok m) rise l at found g es n =
    record {
      old = read_slot s;
      next = read_slot s';
      found = found;
      goes = g;
      events = es;
      steps = n;
      put = slot_set xs i s s' rise l (ap (λ y. y.local.path) (sym at) ∙ goes_path job (read_local s.local) w m.event (option_map read_boxed m.child) (read_local s'.local) g);
    }

-- of whatever path that slot is
pub steps_there : {E : Type 0} (job : Job) (xs : List Slot) (w : Option Outcome') (i : ℕ) (s s' : Slot) (r : Result TheMade E) → SlotsRise (map read_slot xs) → i < length xs → s ≡ slice_index_or xs i s →
    IfOk r (λ m. Goes job (read_local s.local) w m.event (option_map read_boxed m.child) (read_local s'.local)) → IfOk r (λ m. s'.events.items ≡ s.events.items ++ m.event ∷ []) → OnOk r (s'.local.steps ≡ s.local.steps + 1) → IfOk r (λ m. (p : List ℕ) → StandsAt xs p i → StepsAt job (map read_slot xs) p w m (map read_slot (slice_set xs i s')))
steps_there {E} job xs w i s s' (Err e) rise l at g es n = tt
steps_there {E} job xs w i s s' (Ok m) rise l at g es n = λ p stands. steps_at {E = E} job xs p w i s s' (Ok m) rise l at (at_index xs xs p i s refl stands.1 at) g es n

pub kept_at : {X E : Type 0} (xs : List Slot) (i : ℕ) (s s' : Slot) (r : Result X E) → i < length xs → s ≡ slice_index_or xs i s → OnErr r (read_slot s' ≡ read_slot s) → OnErr r (map read_slot (slice_set xs i s') ≡ map read_slot xs)
kept_at xs i s s' (Ok m) l at e = tt
kept_at xs i s s' (Err x) l at e = slot_kept xs i s s' l (e ∙ ap read_slot at)

-- the configuration after it
module _ (job : Job) (ss : List SlotFields) (c : AreSlots job ss) (p : List ℕ) (b : Option (List ℕ)) (w : Option Outcome') (told : SlotNeeds job ss p b w) (m : TheMade) (mid : List SlotFields) (k : StepsAt job ss p w m mid) where
  pub mid_rises : SlotsRise mid
  mid_rises = subst SlotsRise (sym k.put) (put_rises k.next ss (slots_rise job ss c))

  abbrev stepper : (t : Thread) × (thread_by_path c.threads p ≡ Some t) × Stands job.program k.old t
  stepper = found_thread job ss c.threads p k.old c.reads k.found

  same_state : stepper.0.state ≡ k.goes.old
  same_state = let t = stepper in same_Some t.0.state k.goes.old (sym t.2.state ∙ k.goes.opens)

  given : handed c.threads (awaits stepper.0.state) ≡ Some w
  given =
      let u = told c.threads c.reads in
      let t = stepper in
      let threads : t.0 ≡ u.0 = same_Some t.0 u.0 (sym t.1 ∙ u.1) in
      ap (handed c.threads) (ap (λ y. awaits y.state) threads ∙ u.3) ∙ u.4

  abbrev choice_made : Choice job c.threads p
  choice_made =
      let t = stepper in
      record { thread = t.0; outcome = w; move = k.goes.move; found = t.1; given = given; steps = ap (λ x. step job x w) same_state ∙ k.goes.steps }

  abbrev moved_thread : Thread
  moved_thread = record { state = k.goes.move.next; events = stepper.0.events ++ k.goes.move.event ∷ [] }

  next_stands : Stands job.program k.next moved_thread
  next_stands =
      record {
        state = k.goes.next;
        events = k.events ∙ ap₂ (λ es e. es ++ e ∷ []) (Stands.events stepper.2) (sym k.goes.event);
      }

  mid_stands : AllStand job.program (slot_put k.next ss) (put moved_thread c.threads)
  mid_stands = put_stands job.program k.next moved_thread ss c.threads next_stands (all_stand job.program ss c.threads c.reads)

  child_stands : (l : Option LocalFields) (x : Option State) (rs : List SlotFields) (ts : List Thread) → option_map (state_of job.program) l ≡ option_map Some x → AllStand job.program rs ts → AllStand job.program (with_slot l rs) (with_child x ts)
  child_stands None None rs ts e a = a
  child_stands None (Some x) rs ts e a = absurd (none-some (Some x) e)
  child_stands (Some l) None rs ts e a = absurd (none-some (state_of job.program l) (sym e))
  child_stands (Some l) (Some x) rs ts e a = added_stands job.program (record { local = l; events = [] }) (record { state = x; events = [] }) rs ts (record { state = same_Some (state_of job.program l) (Some x) e; events = refl }) a

  child_counted : (l : Option LocalFields) (rs : List SlotFields) → IfSome l (λ (f : LocalFields). f.steps ≡ 0) → AllByRecursion IsCounted rs → AllByRecursion IsCounted (with_slot l rs)
  child_counted None rs n a = a
  child_counted (Some l) rs n a = added_each IsCounted (record { local = l; events = [] }) rs n a

  abbrev new : List SlotFields
  new = with_slot (option_map read_boxed m.child) mid

  abbrev us : List Thread
  us = after c.threads stepper.0 k.goes.move

  new_reads : threads_from job.program new ≡ Some us
  new_reads = ap (λ rs. threads_from job.program (with_slot (option_map read_boxed m.child) rs)) k.put ∙ all_read job.program (with_slot (option_map read_boxed m.child) (slot_put k.next ss)) us (child_stands (option_map read_boxed m.child) k.goes.move.child (slot_put k.next ss) (put moved_thread c.threads) k.goes.born mid_stands)

  next_counted : IsCounted k.next
  next_counted = k.steps ∙ (ap (λ n. n + 1) (each_slot IsCounted ss p k.old c.counted k.found) ∙ (sym (length_push k.old.events m.event) ∙ ap length (sym k.events)))

  pub new_slots : AreSlots job new
  new_slots =
      record {
        threads = us;
        reads = new_reads;
        reached = reached_on job c.threads us (p ∷ []) c.reached (choice_followed job c.threads p choice_made);
        counted = child_counted (option_map read_boxed m.child) mid k.goes.new (subst (AllByRecursion IsCounted) (sym k.put) (put_each IsCounted k.next ss next_counted c.counted));
      }

  advanced : Advanced job c.threads p m.event new
  advanced =
      record {
        threads = us;
        chose = chosen_is job c.threads p stepper.0 w k.goes.move stepper.1 given (Choice.steps choice_made);
        reads = new_reads;
        last = events_moved job c.threads (reached_closed job c.threads c.reached) p choice_made ∙ ap (λ e. events_of c.threads p ++ e ∷ []) k.goes.event;
      }

  pub advances : Advances job ss p m.event new
  advances ts e = subst (λ rs. Advanced job rs p m.event new) (same_Some c.threads ts (sym c.reads ∙ e)) advanced
