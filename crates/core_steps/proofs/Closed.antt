-- Closed configurations: the threads are in their determined states, and the roots, each thread's parent, children and named threads are among them.
-- A choice changes one thread, adds that thread's child where it has one, and keeps the configuration closed.
use Rattle.std.proofs.Common.{◌≡◌, ◌≢◌, ℕ, ◌+◌, ◌<◌, ◌≤◌, List, [], ◌∷◌, ◌++◌, Option, Some, None, length, ◌⊎◌, inl, inr, refl, sym, ◌∙◌, ap, subst, arith}
use Rattle.std.specs.Option.{option_and_then}
use Rattle.std.proofs.lemmas.Bool.{cases_lt}
use Rattle.std.proofs.lemmas.List.{length_push, same_from_push}
use Rattle.std.proofs.lemmas.Option.{same_Some, none-some, option_and_then_some}
use Rattle.priml_syntax.specs.declared.event.Event.{Event}
use Rattle.priml_syntax.specs.declared.event.Event.TheVariants.{Spawn, Join}
use Rattle.priml_syntax.specs.Values.{Outcome'}
use Rattle.priml_syntax.specs.Paths.{child_path}
use Rattle.priml_syntax.specs.Events.{one_spawn, spawns, one_end}
use Rattle.core_steps.specs.Steps.{Job, Ended, State, Moved, step, awaits, outcome_in, Ran, born, alone, joined}
use Rattle.core_steps.specs.Config.{Thread, thread_by_path, put, added, with_child, ended_of, handed, after, moved, chosen, followed}
use Rattle.core_steps.specs.Determined.{events_in, events_of, IsIn, steps_of, one_live, unended}
use Rattle.core_steps.specs.Laws.{IsRoot}
use Rattle.core_steps.proofs.Order.{not_below_self}
use Rattle.core_steps.proofs.StepFacts.{ChildOf, Facts, step_facts, child_facts, joins_awaited, ended_phase, live_before}
use Rattle.core_steps.proofs.Named.{named, spawns_push}
use Rattle.core_steps.proofs.Names.{OfOutcome, OfGiven, OfPhase, outcome_map, phase_map}
use Rattle.core_steps.proofs.StepNames.{OfChild, step_names}
use Rattle.core_steps.proofs.Threads.{InOrder, same_or_not, found_path, put_found, put_others, added_found, added_others, put_in_order, added_in_order, sum_put, sum_added, steps_sum, unended_sum}

-- the thread is a root, or another thread has spawned it
abbrev pub HasParent : Job → List Thread → List ℕ → Type 0
HasParent job ts p = IsRoot job p ⊎ ((q : List ℕ) × (k : ℕ) × (p ≡ child_path q k) × (k < spawns (events_of ts q)))

-- each thread is in its determined state; the threads are in the order of paths, with the roots, each thread's children and parent, and the threads
-- that their states name among them
pub record Closed (job : Job) (ts : List Thread) : Type 0 where
  pub ran : (p : List ℕ) (t : Thread) → thread_by_path ts p ≡ Some t → Ran job p t.events t.state
  pub order : InOrder ts
  pub roots : (p : List ℕ) → IsRoot job p → IsIn ts p
  pub children : (q : List ℕ) (k : ℕ) → k < spawns (events_of ts q) → IsIn ts (child_path q k)
  pub parents : (p : List ℕ) → IsIn ts p → HasParent job ts p
  pub names : (p : List ℕ) (t : Thread) → thread_by_path ts p ≡ Some t → OfPhase (IsIn ts) t.state.phase

-- a choice that a configuration allows: the thread of the path, the outcome that it is handed, and its step
pub record Choice (job : Job) (ts : List Thread) (p : List ℕ) : Type 0 where
  pub thread : Thread
  pub outcome : Option Outcome'
  pub move : Moved
  pub found : thread_by_path ts p ≡ Some thread
  pub given : handed ts (awaits thread.state) ≡ Some outcome
  pub steps : step job thread.state outcome ≡ Some move

-- a choice that leads to a configuration is such a one, and such a one leads to it
pub choice : (job : Job) (ts : List Thread) (p : List ℕ) (us : List Thread) → chosen job ts p ≡ Some us → (c : Choice job ts p) × (after ts c.thread c.move ≡ us)
choice job ts p us e =
    option_and_then_some (λ t. option_and_then (λ m. Some (after ts t m)) (moved job ts t)) (thread_by_path ts p) us e
    (λ t a f. option_and_then_some (λ m. Some (after ts t m)) (moved job ts t) us f
    (λ m g h. option_and_then_some (λ w. step job t.state w) (handed ts (awaits t.state)) m g
    (λ w b c. (record { thread = t; outcome = w; move = m; found = a; given = b; steps = c }, same_Some (after ts t m) us h))))

pub choice_followed : (job : Job) (ts : List Thread) (p : List ℕ) (c : Choice job ts p) → followed job ts (p ∷ []) ≡ Some (after ts c.thread c.move)
choice_followed job ts p c =
    ap (option_and_then (λ us. Some us))
    (ap (option_and_then (λ t. option_and_then (λ m. Some (after ts t m)) (moved job ts t))) c.found ∙
    (ap (λ o. option_and_then (λ m. Some (after ts c.thread m)) (option_and_then (λ w. step job c.thread.state w) o)) c.given ∙
    ap (option_and_then (λ m. Some (after ts c.thread m))) c.steps))

-- an outcome that is handed in is that of a thread that has ended
pub ended_given : (ts : List Thread) (b : List ℕ) (w : Option Outcome') → handed ts (Some b) ≡ Some w → (u : Thread) × (o : Outcome') × (thread_by_path ts b ≡ Some u) × (u.state.phase ≡ Ended o) × (w ≡ Some o)
ended_given ts b w e = go (thread_by_path ts b) refl e
  where
    go : (o : Option Thread) → thread_by_path ts b ≡ o → ended_of o ≡ Some w → (u : Thread) × (o : Outcome') × (thread_by_path ts b ≡ Some u) × (u.state.phase ≡ Ended o) × (w ≡ Some o)
    go None a h = absurd (none-some w h)
    go (Some u) a h = option_and_then_some (λ o. Some (Some o)) (outcome_in u.state.phase) w h (λ o q k. (u, o, a, ended_phase u.state.phase o q, sym (same_Some (Some o) w k)))

-- what a thread that has ended hands in
pub given_ended : (ts : List Thread) (b : List ℕ) (u : Thread) (o : Outcome') → thread_by_path ts b ≡ Some u → outcome_in u.state.phase ≡ Some o → handed ts (Some b) ≡ Some (Some o)
given_ended ts b u o e h = ap ended_of e ∙ ap (option_and_then (λ x. Some (Some x))) h

-- a child that is added is found, and the others as before
child_found : (o : Option State) (s : State) (ts : List Thread) → o ≡ Some s → thread_by_path ts s.path ≡ None → thread_by_path (with_child o ts) s.path ≡ Some (record { state = s; events = [] })
child_found o s ts e n = rw e (added_found (record { state = s; events = [] }) ts n)

child_others : (o : Option State) (ts : List Thread) (q : List ℕ) → ((s : State) → o ≡ Some s → q ≢ s.path) → thread_by_path (with_child o ts) q ≡ thread_by_path ts q
child_others None ts q f = refl
child_others (Some s) ts q f = added_others (record { state = s; events = [] }) ts q (f s refl)

child_in_order : (o : Option State) (ts : List Thread) → ((s : State) → o ≡ Some s → thread_by_path ts s.path ≡ None) → InOrder ts → InOrder (with_child o ts)
child_in_order None ts f s = s
child_in_order (Some c) ts f s = added_in_order (record { state = c; events = [] }) ts (f c refl) s

child_steps : (o : Option State) (ts : List Thread) → steps_of (with_child o ts) ≡ steps_of ts
child_steps None ts = refl
child_steps (Some c) ts = omega (arith, steps_sum (added (record { state = c; events = [] }) ts), sum_added (λ t. length t.events) (record { state = c; events = [] }) ts, steps_sum ts)

child_unended : (s : State) (e : Event) (o : Option State) (ts : List Thread) → ChildOf s e o → unended (with_child o ts) ≡ unended ts + one_spawn e
child_unended s e None ts h = omega (arith, h)
child_unended s e (Some c) ts h =
    omega (arith, unended_sum (added (record { state = c; events = [] }) ts), sum_added (λ t. one_live (outcome_in t.state.phase)) (record { state = c; events = [] }) ts, unended_sum ts, ap one_live h.live, ap one_spawn h.event)

-- what one choice changes in a closed configuration
module _ (job : Job) (ts : List Thread) (k : Closed job ts) (p : List ℕ) (c : Choice job ts p) where
  abbrev moved_thread : Thread
  moved_thread = record { state = c.move.next; events = c.thread.events ++ c.move.event ∷ [] }

  abbrev us : List Thread
  us = after ts c.thread c.move

  facts : Facts c.thread.state (awaits c.thread.state) c.move
  facts = step_facts job c.thread.state c.outcome c.move c.steps

  moved_path : c.move.next.path ≡ p
  moved_path = facts.path ∙ found_path ts p c.thread c.found

  found_before : thread_by_path ts c.move.next.path ≡ Some c.thread
  found_before = ap (thread_by_path ts) moved_path ∙ c.found

  ran_before : Ran job p c.thread.events c.thread.state
  ran_before = k.ran p c.thread c.found

  children_before : c.thread.state.children ≡ spawns (events_of ts p)
  children_before = (named ran_before).children ∙ sym (ap (λ o. spawns (events_in o)) c.found)

  moved_ran : Ran job p (c.thread.events ++ c.move.event ∷ []) c.move.next
  moved_ran = go (awaits c.thread.state) refl c.given
    where
      go : (o : Option (List ℕ)) → awaits c.thread.state ≡ o → handed ts o ≡ Some c.outcome → Ran job p (c.thread.events ++ c.move.event ∷ []) c.move.next
      go None a h = alone ran_before a (subst (λ z. step job c.thread.state z ≡ Some c.move) (sym (same_Some None c.outcome h)) c.steps) refl refl
      go (Some b) a h =
          let x = ended_given ts b c.outcome h in
          joined ran_before (k.ran b x.0 x.2) a x.3 (subst (λ z. step job c.thread.state z ≡ Some c.move) x.4 c.steps) refl refl

  child_is : (s : State) → c.move.child ≡ Some s → (c.move.event ≡ Spawn) × (s.path ≡ child_path p c.thread.state.children)
  child_is s e = let f = child_facts job c.thread.state c.outcome c.move s c.steps e in (f.event, f.path ∙ ap (λ q. child_path q c.thread.state.children) (found_path ts p c.thread c.found))

  child_ran : (s : State) → c.move.child ≡ Some s → Ran job s.path [] s
  child_ran s e = go (awaits c.thread.state) refl
    where
      go : (o : Option (List ℕ)) → awaits c.thread.state ≡ o → Ran job s.path [] s
      go None a = let z : c.outcome ≡ None = same_Some c.outcome None (sym c.given ∙ ap (handed ts) a) in born ran_before a (subst (λ o. step job c.thread.state o ≡ Some c.move) z c.steps) e refl refl refl
      go (Some b) a = absurd (let z : Spawn ≡ Join b = sym (child_is s e).0 ∙ joins_awaited job c.thread.state c.outcome c.move b a c.steps in let y : ⊥ = cc in y)

  -- the child was not there
  fresh : (s : State) → c.move.child ≡ Some s → thread_by_path ts s.path ≡ None
  fresh s e = go (thread_by_path ts s.path) refl
    where
      no : HasParent job ts s.path → ⊥
      no (inl r) = (named ran_before).some (same_from_push p [] c.thread.state.children r.0 (sym (child_is s e).1 ∙ r.2)).0
      no (inr h) =
          let z : (h.0 ≡ p) × (h.1 ≡ c.thread.state.children) = same_from_push h.0 p h.1 c.thread.state.children (sym h.2 ∙ (child_is s e).1) in
          omega (arith, h.3, ap (λ q. spawns (events_of ts q)) z.0, z.1, children_before)

      go : (o : Option Thread) → thread_by_path ts s.path ≡ o → o ≡ None
      go None q = refl
      go (Some u) q = absurd (no (k.parents s.path (u, q)))

  found_moved : thread_by_path us p ≡ Some moved_thread
  found_moved =
      child_others c.move.child (put moved_thread ts) p (λ s e q. not_below_self p (c.thread.state.children, [], q ∙ (child_is s e).1)) ∙
      subst (λ q. thread_by_path (put moved_thread ts) q ≡ Some moved_thread) moved_path (put_found moved_thread c.thread ts found_before)

  not_moved : (s : State) → c.move.child ≡ Some s → s.path ≢ c.move.next.path
  not_moved s e q = not_below_self p (c.thread.state.children, [], sym (q ∙ moved_path) ∙ (child_is s e).1)

  found_child : (s : State) → c.move.child ≡ Some s → thread_by_path us s.path ≡ Some (record { state = s; events = [] })
  found_child s e = child_found c.move.child s (put moved_thread ts) e (put_others moved_thread ts s.path (not_moved s e) ∙ fresh s e)

  -- a path is that of the thread that moved, or that of the child, or finds what it found before
  at_path : (P : List ℕ → Type 0) → P p → ((s : State) → c.move.child ≡ Some s → P s.path) → ((q : List ℕ) → thread_by_path us q ≡ thread_by_path ts q → P q) → (q : List ℕ) → P q
  at_path P a b f q = elim (same_or_not q p) [ inl e ↦ subst P (sym e) a | inr n ↦ go c.move.child refl n ]
    where
      go : (o : Option State) → c.move.child ≡ o → q ≢ p → P q
      go None e n = f q (child_others c.move.child (put moved_thread ts) q (λ s h. absurd (none-some s (sym e ∙ h))) ∙ put_others moved_thread ts q (λ z. n (z ∙ moved_path)))
      go (Some s) e n = elim (same_or_not q s.path) [
        | inl z ↦ subst P (sym z) (b s e)
        | inr z ↦ f q (child_others c.move.child (put moved_thread ts) q (λ r h y. z (y ∙ ap (λ x. x.path) (same_Some r s (sym h ∙ e)))) ∙ put_others moved_thread ts q (λ y. n (y ∙ moved_path)))
      ]

  -- what holds of the moved thread, of the child and of each thread before, holds of each thread after
  each_after : (P : List ℕ → Thread → Type 0) → P p moved_thread → ((s : State) → c.move.child ≡ Some s → P s.path (record { state = s; events = [] })) → ((q : List ℕ) (u : Thread) → thread_by_path ts q ≡ Some u → P q u) →
      (q : List ℕ) (u : Thread) → thread_by_path us q ≡ Some u → P q u
  each_after P a b f = at_path (λ q. (u : Thread) → thread_by_path us q ≡ Some u → P q u)
      (λ u e. subst (P p) (same_Some moved_thread u (sym found_moved ∙ e)) a)
      (λ s h u e. subst (P s.path) (same_Some _ u (sym (found_child s h) ∙ e)) (b s h))
      (λ q z u e. f q u (sym z ∙ e))

  each_events_after : (P : List ℕ → List Event → Type 0) → P p (c.thread.events ++ c.move.event ∷ []) → ((s : State) → c.move.child ≡ Some s → P s.path []) → ((q : List ℕ) → P q (events_of ts q)) → (q : List ℕ) → P q (events_of us q)
  each_events_after P a b f = at_path (λ q. P q (events_of us q))
      (subst (λ o. P p (events_in o)) (sym found_moved) a)
      (λ s h. subst (λ o. P s.path (events_in o)) (sym (found_child s h)) (b s h))
      (λ q z. subst (λ o. P q (events_in o)) (sym z) (f q))

  events_before : events_of ts p ≡ c.thread.events
  events_before = ap events_in c.found

  -- the moved thread has the event of the step more, and the other threads have no other events
  pub events_moved : events_of us p ≡ events_of ts p ++ c.move.event ∷ []
  events_moved = ap events_in found_moved ∙ ap (λ es. es ++ c.move.event ∷ []) (sym events_before)

  pub events_others : (q : List ℕ) → q ≢ p → events_of us q ≡ events_of ts q
  events_others = at_path (λ q. q ≢ p → events_of us q ≡ events_of ts q) (λ n. absurd (n refl)) (λ s h n. ap events_in (found_child s h) ∙ sym (ap events_in (fresh s h))) (λ q z n. ap events_in z)

  -- no thread goes
  pub in_stays : (q : List ℕ) → IsIn ts q → IsIn us q
  in_stays = at_path (λ q. IsIn ts q → IsIn us q) (λ i. (moved_thread, found_moved)) (λ s h i. (record { state = s; events = [] }, found_child s h)) (λ q z i. (i.0, z ∙ i.1))

  -- the thread that moves had not ended
  live : outcome_in c.thread.state.phase ≡ None
  live = live_before job c.thread.state c.outcome c.move c.steps

  spawns_stay : (q : List ℕ) → spawns (events_of ts q) ≤ spawns (events_of us q)
  spawns_stay q = elim (same_or_not q p) [
    | inl z ↦ (let e : events_of us q ≡ events_of ts q ++ c.move.event ∷ [] = subst (λ r. events_of us r ≡ events_of ts r ++ c.move.event ∷ []) (sym z) events_moved in omega (arith, ap spawns e, spawns_push (events_of ts q) c.move.event))
    | inr n ↦ omega (arith, ap spawns (events_others q n))
  ]

  parent_stays : (q : List ℕ) → HasParent job ts q → HasParent job us q
  parent_stays q (inl r) = inl r
  parent_stays q (inr h) = inr (h.0, h.1, h.2, omega (arith, h.3, spawns_stay h.0))

  spawns_moved : spawns (events_of us p) ≡ c.thread.state.children + one_spawn c.move.event
  spawns_moved = ap spawns events_moved ∙ (spawns_push (events_of ts p) c.move.event ∙ ap (λ n. n + one_spawn c.move.event) (sym children_before))

  -- where the step is a Spawn its child is there
  child_there : (o : Option State) → c.move.child ≡ o → ChildOf c.thread.state c.move.event o → one_spawn c.move.event ≡ 1 → IsIn us (child_path p c.thread.state.children)
  child_there None e h n = absurd (omega (arith, h, n))
  child_there (Some s) e h n = subst (IsIn us) (child_is s e).1 (record { state = s; events = [] }, found_child s e)

  moved_children : (n : ℕ) → n < spawns (c.thread.events ++ c.move.event ∷ []) → IsIn us (child_path p n)
  moved_children n l = elim (cases_lt n (spawns (events_of ts p))) [
    | inl a ↦ in_stays (child_path p n) (k.children p n a)
    | inr a ↦
        (let z : n ≡ c.thread.state.children = omega (arith, l, a, spawns_push c.thread.events c.move.event, children_before, ap spawns events_before, one_at_most c.move.event) in
        let y : one_spawn c.move.event ≡ 1 = omega (arith, l, a, spawns_push c.thread.events c.move.event, ap spawns events_before, one_at_most c.move.event) in
        subst (λ j. IsIn us (child_path p j)) (sym z) (child_there c.move.child refl facts.child y))
  ]
    where
      one_at_most : (e : Event) → one_spawn e ≤ 1
      one_at_most Spawn = omega arith
      one_at_most e = omega arith

  child_parent : (s : State) → c.move.child ≡ Some s → HasParent job us s.path
  child_parent s e = inr (p, c.thread.state.children, (child_is s e).1, omega (arith, spawns_moved, ap one_spawn (child_is s e).0))

  -- the threads that the states name are there
  names_after : OfPhase (λ b. c.move.event ≡ c.move.event → IsIn us b) c.move.next.phase × OfChild (IsIn ts) c.move.child
  names_after = step_names (IsIn ts) (λ e b. e ≡ c.move.event → IsIn us b) (λ e b i q. in_stays b i) job c.thread.state c.outcome c.move (k.names p c.thread c.found) handed_names
      (λ q. subst (λ r. IsIn us (child_path r c.thread.state.children)) (sym (found_path ts p c.thread c.found)) (child_there c.move.child refl facts.child (sym (ap one_spawn q)))) c.steps
    where
      handed_names : (b : List ℕ) → awaits c.thread.state ≡ Some b → OfGiven (λ v. Join b ≡ c.move.event → IsIn us v) c.outcome
      handed_names b a =
          let x = ended_given ts b c.outcome (ap (handed ts) (sym a) ∙ c.given) in
          let o : OfOutcome (IsIn ts) x.1 = subst (OfPhase (IsIn ts)) x.3 (k.names b x.0 x.2) in
          subst (OfGiven (λ v. Join b ≡ c.move.event → IsIn us v)) (sym x.4) (outcome_map (IsIn ts) (λ v. Join b ≡ c.move.event → IsIn us v) (λ v i q. in_stays v i) x.1 o)

  child_names : (s : State) → c.move.child ≡ Some s → OfPhase (IsIn us) s.phase
  child_names s e = let z : OfChild (IsIn ts) (Some s) = (let y : OfChild (IsIn ts) c.move.child = names_after.1 in rw e at y) in phase_map (IsIn ts) (IsIn us) in_stays s.phase z

  -- so the configuration after a choice is closed
  pub closed_after : Closed job us
  closed_after = record {
    ran = each_after (λ q u. Ran job q u.events u.state) moved_ran child_ran k.ran;
    order = child_in_order c.move.child (put moved_thread ts) (λ s e. put_others moved_thread ts s.path (not_moved s e) ∙ fresh s e) (put_in_order moved_thread ts k.order);
    roots = λ q r. in_stays q (k.roots q r);
    children = each_events_after (λ q es. (n : ℕ) → n < spawns es → IsIn us (child_path q n)) moved_children (λ s e n l. absurd (omega (arith, l))) (λ q n l. in_stays (child_path q n) (k.children q n l));
    parents = λ q i. each_after (λ r u. HasParent job us r) (parent_stays p (k.parents p (c.thread, c.found))) child_parent (λ r u e. parent_stays r (k.parents r (u, e))) q i.0 i.1;
    names = each_after (λ q u. OfPhase (IsIn us) u.state.phase) (phase_map (λ b. c.move.event ≡ c.move.event → IsIn us b) (IsIn us) (λ b h. h refl) c.move.next.phase names_after.0) child_names (λ q u e. phase_map (IsIn ts) (IsIn us) in_stays u.state.phase (k.names q u e));
  }

  -- there is one step more, and a thread less has not ended at End, one more at Spawn
  pub steps_after : steps_of us ≡ steps_of ts + 1
  steps_after =
      omega (arith, child_steps c.move.child (put moved_thread ts), steps_sum (put moved_thread ts), sum_put (λ t. length t.events) moved_thread c.thread ts found_before, steps_sum ts, length_push c.thread.events c.move.event)

  pub unended_after : unended us + one_end c.move.event ≡ unended ts + one_spawn c.move.event
  unended_after =
      omega (
        arith,
        child_unended c.thread.state c.move.event c.move.child (put moved_thread ts) facts.child,
        unended_sum (put moved_thread ts),
        sum_put (λ t. one_live (outcome_in t.state.phase)) moved_thread c.thread ts found_before,
        unended_sum ts,
        ap one_live live,
        facts.ends,
      )
