-- Each kind of step keeps the rule.
use Rattle.std.proofs.Common.{◌≡◌, ◌≢◌, ℕ, ◌+◌, ◌-◌, ◌*◌, ◌%◌, ◌^◌, ◌<◌, ◌≤◌, ◌==◌, List, [], ◌∷◌, ◌++◌, length, get_or, set, sym, refl, ap, ◌∙◌, subst, ⊎_elim, arith, Option, Some, None, true, length-append, get_or-set_other, get_or-set_same, mod-eq_of_lt, eq-eqb, ne_eqb, mul-le-mul_right}
use mathlib.Core.Logic.{dite}
use mathlib.Core.Option.{some, none}
use native.Mathlib.Decide.{ℕ_discrete}
use lib.ListN.{get_elem?}
use prog.Atomic.{either}
use Rattle.atomic_table.specs.Table.{State, Me, step, keeps, takes, gives, Allows, Splits, Joins, stepped}
use Rattle.priml_syntax.specs.Events.{spawns, ends}
use Rattle.priml_syntax.specs.Read.{read_outcome}
use Rattle.std.specs.Option.{option_map}
use Rattle.core_steps.specs.Determined.{events_of, steps_of, unended}
use Rattle.task_state.specs.Segments.{IsSegmentOf}
use Rattle.join_board.specs.Jobs.{the_job}
use Rattle.join_board.specs.Threads.{PrioOf, Spawns, ended}
use Rattle.priml_syntax.specs.declared.event.Event.{Event}
use Rattle.join_board.specs.Entries.{Entry}
use Rattle.join_board.specs.declared.view.Sight.{Sight}
use Rattle.join_board.specs.declared.view.About.{About}
use Rattle.join_board.specs.declared.view.View.{View}
use Rattle.join_board.specs.declared.view.Hand.{Hand}
use Rattle.join_board.specs.declared.view.Live.{Live}
use Rattle.join_board.specs.declared.view.Keys.{Keys}
use Rattle.join_board.specs.declared.view.Stop.{Stop}
use Rattle.join_board.specs.Logs.{Each, log_in, shard_at, size, spawned, finished, Shows, appended, fresh, parked_on, IsListed, Missing, CanWait}
use Rattle.join_board.specs.Inside.Views.{left, right, both, spent_view, took_view, missed_view, gave_view, added_view, subtracted_view, alive_view, over_view, counted_view, asked_limit_view, asked_memory_view, unset_view, found_limit_view, found_memory_view}
use Rattle.join_board.specs.Rule.{word_of, KeepsLive, KeepsSpent, Keeps}
use Rattle.join_board.specs.Inside.Plays.{Told, Taken, took, gave, Grew, Grew_by, Enrolled_by, Parked_by, added, subtracted, looked, counted, asked_limit, asked_memory, found_stop}
use Rattle.task_state.proofs.Sums.{total_at, total_le, total_add, total_same, total_set, total_append, was_at}
use Rattle.join_board.proofs.Frames.{seats_frame, hands_frame, seen_frame, live_frame, spent_frame, parked_frame}
use Rattle.join_board.proofs.Hands.{hands_took, hands_missed, hands_gave, hands_split, hands_join}
use Rattle.join_board.proofs.Seen.{both_seen, shows_mine, seen_gave, seen_split, seen_join, joined, log_at}
use Rattle.join_board.proofs.Counts.{seats_gave, seats_split, seats_join, few_steps, live_gave, live_added, live_subtracted, live_some, live_over, live_split, live_join, spent_gave, spent_counted}
use Rattle.join_board.proofs.Stops.{spent_asked_limit, spent_asked_memory, stop_low, spent_unset, spent_found_limit, spent_found_memory, spent_split, spent_join}
use Rattle.join_board.proofs.Keys.{Moved, parked_gave, parked_split, parked_join}
use Rattle.join_board.proofs.Logs.{Turned, turned_same, turned_segment, turned_parked, turned_enrolled, spawns_append, ends_append}
use Rattle.join_board.proofs.Laws as law

abbrev pub Slot : Type 0
Slot = Option (List Entry)

abbrev pub St : Type 0
St = State Slot View

abbrev pub Sat : Type 0
Sat = Me Slot View

room_for : (n a b : ℕ) → 0 < n → a ≤ 2 ^ 59 → b ≡ a → b ≤ n * 2 ^ 59
room_for n a b some_seat room same = let h : 1 * 2 ^ 59 ≤ n * 2 ^ 59 = mul-le-mul_right (2 ^ 59) some_seat in omega (arith, h, room, same)

-- the view has room for what it gives
abbrev Room : View → List Entry → Type 0
Room v x = (v.own + (size x - size v.hand.copy) ≤ v.seats * 2 ^ 59) × (spawned x - spawned v.hand.copy ≤ v.live.ahead) × (v.live.behind + (finished x - finished v.hand.copy) + (v.live.ahead - (spawned x - spawned v.hand.copy)) ≤ v.seats)

room_same : (v : View) (x : List Entry) → size x ≡ size v.hand.copy → spawned x ≡ spawned v.hand.copy → finished x ≡ finished v.hand.copy → v.own ≤ v.seats * 2 ^ 59 → v.live.ahead + v.live.behind ≤ v.seats → Room v x
room_same v x a b c own busy = (omega (arith, a, own), omega (arith, b), omega (arith, b, c, busy))

-- a segment's steps in the sums of its shard
pub grown_sums : (v : View) (k : ℕ) (x : List Entry) (g : Grew_by v k x) → (size x ≡ size v.hand.copy + length g.segment.events) × (spawned x ≡ spawned v.hand.copy + spawns g.segment.events) × (finished x ≡ finished v.hand.copy + ends g.segment.events)
grown_sums v k x g = let e' = appended g.entry g.segment in let es = g.segment.events in let y = v.hand.copy in (
  (let i = ap size g.is in let h = total_set (λ (u : Entry). length u.log.events) y g.at g.entry e' g.there in let l = length-append g.entry.log.events es in omega (arith, i, h, l)),
  (let i = ap spawned g.is in let h = total_set (λ (u : Entry). spawns u.log.events) y g.at g.entry e' g.there in let l = spawns_append g.entry.log.events es in omega (arith, i, h, l)),
  (let i = ap finished g.is in let h = total_set (λ (u : Entry). ends u.log.events) y g.at g.entry e' g.there in let l = ends_append g.entry.log.events es in omega (arith, i, h, l)),
)

room_of : (v : View) (k : ℕ) (x : List Entry) → Grew v k x → 0 < v.seats → v.own ≤ v.seats * 2 ^ 59 → v.live.ahead + v.live.behind ≤ v.seats → Room v x
room_of v k x grew share own busy = ⊎_elim (λ (same : x ≡ v.hand.copy). room_same v x (ap size same) (ap spawned same) (ap finished same) own busy) (λ more. ⊎_elim
    (λ (g : Grew_by v k x). let y = v.hand.copy in let es = g.segment.events in let sums = grown_sums v k x g in let a = sums.0 in let b = sums.1 in let c = sums.2 in
    (room_for v.seats (v.own + length es) (v.own + (size x - size y)) share g.room (omega (arith, a)), (let z = g.ahead in omega (arith, b, z)), (let z = g.behind in omega (arith, b, c, z, share))))
    (λ others. ⊎_elim
    (λ (g : Enrolled_by v k x). let f = fresh g.path g.prio in let y = v.hand.copy in room_same v x
    (let i = ap size g.is in let h = total_append (λ (u : Entry). length u.log.events) y (f ∷ []) in omega (arith, i, h)) (let i = ap spawned g.is in let h = total_append (λ (u : Entry). spawns u.log.events) y (f ∷ []) in omega (arith, i, h))
    (let i = ap finished g.is in let h = total_append (λ (u : Entry). ends u.log.events) y (f ∷ []) in omega (arith, i, h)) own busy)
    (λ (g : Parked_by v k x). let f = parked_on g.entry g.task in let y = v.hand.copy in room_same v x
    (ap size g.is ∙ total_same (λ (u : Entry). length u.log.events) y g.at g.entry f g.there refl) (ap spawned g.is ∙ total_same (λ (u : Entry). spawns u.log.events) y g.at g.entry f g.there refl)
    (ap finished g.is ∙ total_same (λ (u : Entry). ends u.log.events) y g.at g.entry f g.there refl) own busy)
    others)
    more) grew

module _ (key : About) where
  -- take
  took_free : (s : St) (r : Keeps key s) (id k : ℕ) (v : View) → k < 64 → v.hand.hand ≡ 0 → 0 < v.seats → get_elem? s.views id ≡ some v → get_or s.words (word_of k) 0 ≡ 0
      → Keeps key (stepped s (word_of k) 1 id [] (took_view v k (shard_at r.shards k)) (takes k (Some (shard_at r.shards k))))
  took_free s r id k v lt idle share at free = let w : View = took_view v k (shard_at r.shards k) in record {
    shards = r.shards;
    config = r.config;
    logs = r.logs;
    seats = seats_frame key (steps_of r.config) s.views id v w at r.seats (λ h. h) refl refl;
    hands = hands_took r.shards s.words s.homes s.views id k v r.hands lt idle share at free;
    seen = seen_frame key r.shards s.views id v w at r.seen (λ h. both_seen r.shards v.seen _ h (shows_mine r.shards r.config k (r.logs.placed k lt)));
    live = live_frame (unended r.config) _ _ s.views id v w at r.live (get_or-set_other s.words (word_of k) 0 1 0 (λ e. omega (arith, e))) (λ h. h) refl refl;
    spent = spent_frame key (steps_of r.config) _ _ _ _ s.views id v w at r.spent (get_or-set_other s.words (word_of k) 1040 1 0 (λ e. omega (arith, e, lt))) (get_or-set_other s.words (word_of k) 1056 1 0 (λ e. omega (arith, e, lt))) refl refl;
    parked = parked_frame key r.shards s.views id v w at r.parked refl refl;
  }

  took_held : (s : St) (r : Keeps key s) (id k : ℕ) (v : View) → k < 64 → get_elem? s.views id ≡ some v → get_or s.words (word_of k) 0 ≢ 0 → Keeps key (stepped s (word_of k) 1 id [] (missed_view v k) keeps)
  took_held s r id k v lt at held = let w : View = missed_view v k in record {
    shards = r.shards;
    config = r.config;
    logs = r.logs;
    seats = seats_frame key (steps_of r.config) s.views id v w at r.seats (λ h. h) refl refl;
    hands = hands_missed r.shards s.words s.homes s.views id k v r.hands lt at held;
    seen = seen_frame key r.shards s.views id v w at r.seen (λ h. h);
    live = live_frame (unended r.config) _ _ s.views id v w at r.live (get_or-set_other s.words (word_of k) 0 1 0 (λ e. omega (arith, e))) (λ h. h) refl refl;
    spent = spent_frame key (steps_of r.config) _ _ _ _ s.views id v w at r.spent (get_or-set_other s.words (word_of k) 1040 1 0 (λ e. omega (arith, e, lt))) (get_or-set_other s.words (word_of k) 1056 1 0 (λ e. omega (arith, e, lt))) refl refl;
    parked = parked_frame key r.shards s.views id v w at r.parked refl refl;
  }

  taken : (s : St) (r : Keeps key s) (id k : ℕ) (v : View) → k < 64 → 0 < v.seats → get_elem? s.views id ≡ some v → Taken v k (shard_at r.shards k)
  taken s r id k v lt share at = let about : key ≡ v.about = sym ((r.seats.each id v at).0 share) in let l = r.logs in record {
    told = subst (λ (a : About). Each (Told (the_job a)) (shard_at r.shards k)) about (λ i e g. let own = l.placed k lt i e g in let its = l.entries k lt i e g in
        let log : events_of r.config e.log.path ≡ e.log.events = l.reads e.log.path ∙ (ap (λ (j : ℕ). log_in (shard_at r.shards j) e.log.path) own.0 ∙ log_at (shard_at r.shards k) i e g own.2) in (
          (λ q. sym (ap ended log) ∙ law.no_outcome (the_job key) r.config e.log.path l.reached (sym its.1 ∙ ap (option_map read_outcome) q)),
          (λ o q. let z = sym its.1 ∙ ap (option_map read_outcome) q in (sym (ap ended log) ∙ law.has_outcome (the_job key) r.config e.log.path (read_outcome o) l.reached own.1 z, law.agrees (the_job key) r.config e.log.path (read_outcome o) l.reached own.1 z)),
          λ d es t tr. law.stuck (the_job key) r.config e.log.path (length e.log.events) es t l.reached (ap length (sym log)) tr (ap ended log ∙ d),
        ));
    apart = λ i j e f g h q. (l.placed k lt i e g).2 j f h q;
    waits = subst (λ (a : About). Each (λ (e : Entry). Each (CanWait (the_job a) e.log.path) e.waiting) (shard_at r.shards k)) about (λ i e g j t h. (r.parked.waits k lt i e g j t h).0);
    met = λ i t g q. subst (λ (j : ℕ). (t.length ≤ length (log_in (shard_at r.shards j) t.path)) × (t.ended ≡ true → ended (log_in (shard_at r.shards j) t.path) ≡ true) × IsListed (shard_at r.shards j) t.path) q (r.seen.each id v at i t g);
    rooted = λ j l q. subst (λ (n : ℕ). IsListed (shard_at r.shards n) (j ∷ [])) q (r.seen.rooted j (subst (λ (a : About). j < length (the_job a).program.mains) (sym about) l));
  }

  pub takes_shard : (id k : ℕ) (v : View) → k < 64 → v.hand.hand ≡ 0 → 0 < v.seats → Allows (Keeps key) 64 id (v, []) (word_of k) (λ _. 1) (took (step 64 (word_of k) 1 0 none) (v, []))
  takes_shard id k v lt idle share s r deep at fits = dite (ℕ_discrete (get_or s.words (word_of k) 0) 0)
      (λ free. let x = shard_at r.shards k in (
        took_view v k x,
        takes k (Some x),
        r.hands.home k lt free,
        took_free s r id k v lt idle share at free,
        λ j e. let q : k ≡ j = omega (arith, e) in ((λ _. (x, ap (λ (i : ℕ). let z : Sat = (took_view v i x, (i, Some x) ∷ []) in z) q, subst (λ (i : ℕ). Taken v i x) q (taken s r id k v lt share at))), λ n. absurd (n free)),
      ))
      (λ held. (missed_view v k, keeps, tt, took_held s r id k v lt at held, λ j e. ((λ z. absurd (held z)), λ _. ap (λ (i : ℕ). let z : Sat = (missed_view v i, []) in z) (let q : k ≡ j = omega (arith, e) in q))))

  pub takes_seated : (slots id k : ℕ) (m : Sat) → slots ≡ 64 → k < 64 → m.1 ≡ [] → m.0.hand.hand ≡ 0 → 0 < m.0.seats → Allows (Keeps key) slots id m (word_of k) (λ _. 1) (took (step slots (word_of k) 1 0 none) m)
  takes_seated slots id k m e lt bare idle share = subst (λ (n : ℕ). Allows (Keeps key) n id m (word_of k) (λ _. 1) (took (step n (word_of k) 1 0 none) m)) (sym e)
      (subst (λ (x : Sat). Allows (Keeps key) 64 id x (word_of k) (λ _. 1) (took (step 64 (word_of k) 1 0 none) x)) (λ i. (m.0, sym bare i)) (takes_shard id k m.0 lt idle share))

  -- give
  gave_any : (s : St) (r : Keeps key s) (id k : ℕ) (v : View) (x : List Entry) → k < 64 → v.hand.hand ≡ k + 1 → length s.homes ≡ 64 → get_elem? s.views id ≡ some v → Turned key r.shards r.config k v.hand.copy x
      → v.own + (size x - size v.hand.copy) ≤ v.seats * 2 ^ 59 → spawned x - spawned v.hand.copy ≤ v.live.ahead → v.live.behind + (finished x - finished v.hand.copy) + (v.live.ahead - (spawned x - spawned v.hand.copy)) ≤ v.seats
      → Keeps key (stepped s (word_of k) 0 id ((k, Some x) ∷ []) (gave_view v x) gives)
  gave_any s r id k v x lt hand deep at t room ahead busy = let held = ((r.hands.each id v at) k hand).1 in record {
    shards = set r.shards k x;
    config = t.config;
    logs = t.logs;
    seats = seats_gave key (steps_of r.config) (steps_of t.config) s.views id v x r.seats at t.steps room;
    hands = hands_gave r.shards s.words s.homes s.views id k v x r.hands lt r.logs.deep deep hand at;
    seen = seen_gave key r.shards t.config s.views id k v x r.seen at t.shows (get_or-set_same r.shards k x [] (let l = r.logs.deep in omega (arith, l, lt))) (t.logs.placed k lt);
    live = live_gave (unended r.config) (unended t.config) _ _ s.views id v x r.live at (get_or-set_other s.words (word_of k) 0 0 0 (λ e. omega (arith, e))) t.alive t.over ahead busy;
    spent = spent_gave key (steps_of r.config) (steps_of t.config) _ _ _ _ s.views id v x r.spent at (get_or-set_other s.words (word_of k) 1040 0 0 (λ e. omega (arith, e, lt))) (get_or-set_other s.words (word_of k) 1056 0 0 (λ e. omega (arith, e, lt))) t.steps;
    parked = parked_gave key r.shards s.views id k v x r.parked at r.logs.deep lt held (subst (λ (z : List Entry). Moved z x) held t.moved) t.waits;
  }

  -- what is given does no more than Grew says
  turned : (s : St) (r : Keeps key s) (id k : ℕ) (v : View) (x : List Entry) → k < 64 → v.hand.hand ≡ k + 1 → get_elem? s.views id ≡ some v → Grew v k x → Turned key r.shards r.config k v.hand.copy x
  turned s r id k v x lt hand at grew = let h = (r.hands.each id v at) k hand in let held : v.hand.copy ≡ shard_at r.shards k = h.1 in let about : v.about ≡ key = (r.seats.each id v at).0 h.2 in let l = r.logs in let waits = r.parked.waits k lt in let y = shard_at r.shards k in
      subst (λ (z : List Entry). Turned key r.shards r.config k z x) (sym held) (⊎_elim
      (λ (same : x ≡ v.hand.copy). subst (Turned key r.shards r.config k y) (sym (same ∙ held)) (turned_same key r.shards r.config l k lt waits))
      (λ more. ⊎_elim
      (λ (g : Grew_by v k x). subst (Turned key r.shards r.config k y) (sym (g.is ∙ ap (λ (z : List Entry). set z g.at (appended g.entry g.segment)) held))
      (turned_segment key r.shards r.config l k lt g.at g.entry g.segment (subst (λ (z : List Entry). get_elem? z g.at ≡ some g.entry) held g.there) g.path g.from (subst (λ (a : About). IsSegmentOf (the_job a) g.segment) about g.steps)
      (joined r.config r.shards v l.reads (r.seen.each id v at) g.segment.events g.joins) (subst (λ (a : About). length g.segment.events ≤ a.quantum) about g.quantum) (subst (λ (a : About). g.segment.worker < a.opened) about g.worker) waits))
      (λ others. ⊎_elim
      (λ (g : Enrolled_by v k x). let sp = g.spawned in let sight = r.seen.each id v at sp.0 sp.1 sp.2 in
      subst (Turned key r.shards r.config k y) (sym (g.is ∙ ap (λ (z : List Entry). z ++ fresh g.path g.prio ∷ []) held)) (turned_enrolled key r.shards r.config l k lt g.path g.prio g.here
      (law.child (the_job key) r.config sp.1.path sp.1.length g.path l.reached (subst (λ (a : About). Spawns (the_job a) sp.1.path sp.1.length g.path) about sp.3) (subst (λ (es : List Event). sp.1.length ≤ length es) (sym (l.reads sp.1.path)) sight.0))
      (subst (λ (z : List Entry). Missing z g.path) held g.missing) (subst (λ (a : About). PrioOf (the_job a) g.path g.prio) about g.priority) waits))
      (λ (g : Parked_by v k x). subst (Turned key r.shards r.config k y) (sym (g.is ∙ ap (λ (z : List Entry). set z g.at (parked_on g.entry g.task)) held))
      (turned_parked key r.shards r.config l k lt g.at g.entry g.task (subst (λ (z : List Entry). get_elem? z g.at ≡ some g.entry) held g.there) g.goes_on (subst (λ (a : About). CanWait (the_job a) g.entry.log.path g.task) about g.waits) waits))
      others)
      more)
      grew)

  pub gives_shard : (slots id k : ℕ) (m : Sat) (x : List Entry) → slots ≡ 64 → k < 64 → m.1 ≡ (k, Some x) ∷ [] → m.0.hand.hand ≡ k + 1 → Grew m.0 k x
      → Allows (Keeps key) slots id m (word_of k) (λ _. 0) (gave (step slots (word_of k) 0 0 none) m)
  gives_shard slots id k m x e lt carried hand grew = subst (λ (c : List (ℕ × Slot)). Allows (Keeps key) slots id (m.0, c) (word_of k) (λ _. 0) (gave (step slots (word_of k) 0 0 none) (m.0, c))) (sym carried)
      (λ s r deep at fits. let v = m.0 in let room = room_of v k x grew ((r.hands.each id v at) k hand).2 (r.seats.each id v at).1 (r.live.each id v at).0 in
      (gave_view v x, gives, tt, gave_any s r id k v x lt hand (deep ∙ e) at (turned s r id k v x lt hand at grew) room.0 room.1 room.2, refl))

  -- live
  bounded : (s : St) (r : Keeps key s) → get_or s.words 0 0 ≤ 2 ^ 63 + 2 ^ 32 + 16
  bounded s r = let steps = few_steps key (steps_of r.config) s.views r.seats in let busy = total_le (λ (u : View). u.live.ahead + u.live.behind) (λ u. u.seats) s.views (λ j u e. (r.live.each j u e).0) in
      let add = total_add (λ (u : View). u.live.ahead) (λ u. u.live.behind) s.views in let few = r.logs.few in let roots = r.logs.roots in let count = r.live.count in let seats = r.seats.seats in let sixteen = r.seats.few in omega (arith, steps, busy, add, few, roots, count, seats, sixteen)

  -- a step on the count of live threads
  on_live : (s : St) (r : Keeps key s) (id n : ℕ) (v w : View) → get_elem? s.views id ≡ some v → w.about ≡ v.about → w.seats ≡ v.seats → w.own ≡ v.own → w.uncounted ≡ v.uncounted → w.hand ≡ v.hand → w.seen ≡ v.seen → w.keys ≡ v.keys → w.stop ≡ v.stop
      → KeepsLive (unended r.config) n (set s.views id w) → Keeps key (stepped s 0 n id [] w keeps)
  on_live s r id n v w at about seats own uncounted hand seen keys stop live = record {
    shards = r.shards;
    config = r.config;
    logs = r.logs;
    seats = seats_frame key (steps_of r.config) s.views id v w at r.seats (λ h. ((λ z. about ∙ h.0 (omega (arith, z, seats))), subst (λ (q : ℕ × ℕ). q.0 ≤ q.1 * 2 ^ 59) (λ i. (sym own i, sym seats i)) h.1, λ z. ap (λ (t : Stop). t.asked_memory) stop ∙ h.2 (sym seats ∙ z))) own seats;
    hands = hands_frame r.shards s.words s.homes s.views id 0 n v w at r.hands (λ k l e. omega (arith, e)) (λ h k e. let o = h k (ap (λ (z : Hand). z.hand) (sym hand) ∙ e) in (o.0, ap (λ (z : Hand). z.copy) hand ∙ o.1, (let z = o.2 in omega (arith, z, seats)))) (ap (λ (z : Hand). z.hand) hand);
    seen = seen_frame key r.shards s.views id v w at r.seen (subst (λ (z : List Sight). Each (Shows r.shards) z) (sym seen));
    live = subst (λ (z : ℕ). KeepsLive (unended r.config) z (set s.views id w)) (sym (get_or-set_same s.words 0 n 0 (let l = r.hands.wide in omega (arith, l)))) live;
    spent = spent_frame key (steps_of r.config) _ _ _ _ s.views id v w at r.spent (get_or-set_other s.words 0 1040 n 0 (λ e. omega (arith, e))) (get_or-set_other s.words 0 1056 n 0 (λ e. omega (arith, e))) uncounted stop;
    parked = parked_frame key r.shards s.views id v w at r.parked (ap (λ (z : Keys). z.parked) keys) (ap (λ (z : Keys). z.handed) keys);
  }

  pub adds_live : (slots id : ℕ) (m : Sat) → m.0.live.ahead ≡ 0 → m.0.live.behind ≡ 0 → 0 < m.0.seats → Allows (Keeps key) slots id m 0 (λ n. (n + 1) % 2 ^ 64) (added (step slots 0 1 0 none) m)
  adds_live slots id m idle still share s r deep at fits = let v = m.0 in let b = bounded s r in let small : (get_or s.words 0 0 + 1) % 2 ^ 64 ≡ get_or s.words 0 0 + 1 = mod-eq_of_lt (omega (arith, b)) in
      (added_view v, keeps, tt, on_live s r id _ v (added_view v) at refl refl refl refl refl refl refl refl (live_added (unended r.config) _ _ s.views id v r.live at small idle still share), refl)

  pub subtracts_live : (slots id : ℕ) (m : Sat) → m.0.live.behind ≡ 1 → Allows (Keeps key) slots id m 0 (λ n. (n + (2 ^ 64 - 1)) % 2 ^ 64) (subtracted (step slots 0 1 0 none) m)
  subtracts_live slots id m late s r deep at fits = let v = m.0 in let n = get_or s.words 0 0 in let l = live_some (unended r.config) n s.views id v r.live at in
      let down : (n + (2 ^ 64 - 1)) % 2 ^ 64 + 1 ≡ n = omega (arith, l, late, fits) in
      (subtracted_view v, keeps, tt, on_live s r id _ v (subtracted_view v) at refl refl refl refl refl refl refl refl (live_subtracted (unended r.config) _ _ s.views id v r.live at down late), refl)

  pub loads_live : (slots id : ℕ) (m : Sat) → Allows (Keeps key) slots id m 0 (λ n. n) (looked (step slots 0 0 0 none) m)
  loads_live slots id m s r deep at fits = let v = m.0 in let n = get_or s.words 0 0 in dite (ℕ_discrete n 0)
      (λ z. (over_view v, keeps, tt, on_live s r id n v (over_view v) at refl refl refl refl refl refl refl refl (live_over (unended r.config) n n s.views id v r.live at refl z), ((λ _. refl), λ h. absurd (h z))))
      (λ h. (alive_view v, keeps, tt, on_live s r id n v (alive_view v) at refl refl refl refl refl refl refl refl (live_frame (unended r.config) n n s.views id v (alive_view v) at r.live refl (λ o. o) refl refl), ((λ z. absurd (h z)), λ _. refl)))

  -- the total and the stop
  on_stop : (s : St) (r : Keeps key s) (id i n : ℕ) (v w : View) → get_elem? s.views id ≡ some v → 1024 < i → (w.seats ≡ 0 → w.stop.asked_memory ≡ v.stop.asked_memory) → w.about ≡ v.about → w.seats ≡ v.seats → w.own ≡ v.own → w.hand ≡ v.hand → w.seen ≡ v.seen → w.keys ≡ v.keys → w.live ≡ v.live
      → KeepsSpent key (steps_of r.config) (get_or (set s.words i n) 1040 0) (get_or (set s.words i n) 1056 0) (set s.views id w) → Keeps key (stepped s i n id [] w keeps)
  on_stop s r id i n v w at far asked about seats own hand seen keys live spent = record {
    shards = r.shards;
    config = r.config;
    logs = r.logs;
    seats = seats_frame key (steps_of r.config) s.views id v w at r.seats (λ h. ((λ z. about ∙ h.0 (omega (arith, z, seats))), subst (λ (q : ℕ × ℕ). q.0 ≤ q.1 * 2 ^ 59) (λ j. (sym own j, sym seats j)) h.1, λ z. asked z ∙ h.2 (sym seats ∙ z))) own seats;
    hands = hands_frame r.shards s.words s.homes s.views id i n v w at r.hands (λ k l e. omega (arith, e, l, far)) (λ h k e. let o = h k (ap (λ (z : Hand). z.hand) (sym hand) ∙ e) in (o.0, ap (λ (z : Hand). z.copy) hand ∙ o.1, (let z = o.2 in omega (arith, z, seats)))) (ap (λ (z : Hand). z.hand) hand);
    seen = seen_frame key r.shards s.views id v w at r.seen (subst (λ (z : List Sight). Each (Shows r.shards) z) (sym seen));
    live = live_frame (unended r.config) _ _ s.views id v w at r.live (get_or-set_other s.words i 0 n 0 (λ e. omega (arith, e, far))) (λ h. subst (λ (q : ℕ × Live). (q.1.ahead + q.1.behind ≤ q.0) × (0 < q.1.over → unended r.config ≡ 0)) (λ j. (sym seats j, sym live j)) h)
        (ap (λ (z : Live). z.ahead) live) (ap (λ (z : Live). z.behind) live);
    spent = spent;
    parked = parked_frame key r.shards s.views id v w at r.parked (ap (λ (z : Keys). z.parked) keys) (ap (λ (z : Keys). z.handed) keys);
  }

  pub adds_spent : (slots id k : ℕ) (m : Sat) → k ≡ m.0.uncounted → Allows (Keeps key) slots id m 1040 (λ n. (n + k) % 2 ^ 64) (counted (step slots 1040 k 0 none) m)
  adds_spent slots id k m is s r deep at fits = let v = m.0 in let n = get_or s.words 1040 0 in let few = few_steps key (steps_of r.config) s.views r.seats in let mine = total_at (λ (u : View). u.uncounted) s.views id v at in
      let sum = r.spent.sum in let small : (n + k) % 2 ^ 64 ≡ n + v.uncounted = mod-eq_of_lt (omega (arith, few, mine, sum, is)) ∙ ap (λ (z : ℕ). n + z) is in (
        counted_view v n,
        keeps,
        tt,
        on_stop s r id 1040 _ v (counted_view v n) at (omega arith) (λ _. refl) refl refl refl refl refl refl refl
            (spent_counted key (steps_of r.config) n (get_or s.words 1056 0) _ _ s.views id v r.spent at (get_or-set_same s.words 1040 ((n + k) % 2 ^ 64) 0 (let l = r.hands.wide in omega (arith, l)) ∙ small) (get_or-set_other s.words 1040 1056 ((n + k) % 2 ^ 64) 0 (λ e. omega (arith, e)))),
        (refl, (r.spent.each id v at).0, omega (arith, few, mine, sum)),
      )

  -- the stop word alone
  on_word : (s : St) (r : Keeps key s) (id n : ℕ) (w : View) → KeepsSpent key (steps_of r.config) (get_or s.words 1040 0) n (set s.views id w) → KeepsSpent key (steps_of r.config) (get_or (set s.words 1056 n) 1040 0) (get_or (set s.words 1056 n) 1056 0) (set s.views id w)
  on_word s r id n w = subst (λ (z : ℕ × ℕ). KeepsSpent key (steps_of r.config) z.0 z.1 (set s.views id w)) (λ i. (sym (get_or-set_other s.words 1056 1040 n 0 (λ e. omega (arith, e))) i, sym (get_or-set_same s.words 1056 n 0 (let l = r.hands.wide in omega (arith, l))) i))

  either_first : (why n : ℕ) → n ≡ 0 → either (n == 0) why n ≡ why
  either_first why n z = ap (λ b. either b why n) (eq-eqb n 0 z)

  either_later : (why n : ℕ) → n ≢ 0 → either (n == 0) why n ≡ n
  either_later why n z = ap (λ b. either b why n) (ne_eqb n 0 z)

  pub asks_limit : (slots id : ℕ) (m : Sat) → 0 < m.0.seats → m.0.about.limit < m.0.stop.most → Allows (Keeps key) slots id m 1056 (λ n. either (n == 0) 1 n) (asked_limit (step slots 1056 0 1 none) m)
  asks_limit slots id m share over s r deep at fits = let v = m.0 in let n = get_or s.words 1056 0 in let n' = either (n == 0) 1 n in let limit = ap (λ (a : About). a.limit) ((r.seats.each id v at).0 share) in let most = (r.spent.each id v at).0 in (
    asked_limit_view v,
    keeps,
    tt,
    on_stop s r id 1056 n' v (asked_limit_view v) at (omega arith) (λ _. refl) refl refl refl refl refl refl refl (on_word s r id n' (asked_limit_view v)
        (spent_asked_limit key (steps_of r.config) _ n n' s.views id v r.spent at (either_first 1 n) (either_later 1 n) (omega (arith, limit, most, over)))),
    refl,
  )

  pub asks_memory : (slots id : ℕ) (m : Sat) → 0 < m.0.seats → Allows (Keeps key) slots id m 1056 (λ n. either (n == 0) 2 n) (asked_memory (step slots 1056 0 2 none) m)
  asks_memory slots id m share s r deep at fits = let v = m.0 in let n = get_or s.words 1056 0 in let n' = either (n == 0) 2 n in (
    asked_memory_view v,
    keeps,
    tt,
    on_stop s r id 1056 n' v (asked_memory_view v) at (omega arith) (λ z. absurd (omega (arith, z, share))) refl refl refl refl refl refl refl (on_word s r id n' (asked_memory_view v)
        (spent_asked_memory key (steps_of r.config) _ n n' s.views id v r.spent at (either_first 2 n) (either_later 2 n))),
    refl,
  )

  pub finds_stop : (slots id : ℕ) (m : Sat) → Allows (Keeps key) slots id m 1056 (λ n. n) (found_stop (step slots 1056 0 0 none) m)
  finds_stop slots id m s r deep at fits = let v = m.0 in let n = get_or s.words 1056 0 in let low = stop_low key _ n _ r.spent.cause in dite (ℕ_discrete n 0)
      (λ z. (
        unset_view v,
        keeps,
        tt,
        on_stop s r id 1056 n v (unset_view v) at (omega arith) (λ _. refl) refl refl refl refl refl refl refl (on_word s r id n (unset_view v) (spent_unset key (steps_of r.config) _ n s.views id v r.spent at)),
        (low, (λ _. refl), (λ e. absurd (omega (arith, e, z))), λ e. absurd (omega (arith, e, z))),
      ))
      (λ some_stop. dite (ℕ_discrete n 1)
      (λ o. (
        found_limit_view v,
        keeps,
        tt,
        on_stop s r id 1056 n v (found_limit_view v) at (omega arith) (λ _. refl) refl refl refl refl refl refl refl (on_word s r id n (found_limit_view v) (spent_found_limit key (steps_of r.config) _ n s.views id v r.spent at o)),
        (low, (λ e. absurd (some_stop e)), (λ _. refl), λ e. absurd (omega (arith, e, o))),
      ))
      (λ other. (
        found_memory_view v,
        keeps,
        tt,
        on_stop s r id 1056 n v (found_memory_view v) at (omega arith) (λ _. refl) refl refl refl refl refl refl refl (on_word s r id n (found_memory_view v) (spent_found_memory key (steps_of r.config) _ n s.views id v r.spent at (omega (arith, low, some_stop, other)))),
        (low, (λ e. absurd (some_stop e)), (λ e. absurd (other e)), λ _. refl),
      )))

  -- split and join
  pub cuts : (id : ℕ) (v : View) → v.hand.hand ≡ 0 → v.live.ahead ≡ 0 → v.live.behind ≡ 0 → v.own ≡ 0 → 1 < v.seats → Splits (Keeps key) id v (left v) (right v)
  cuts id v idle ahead behind bare share s r at = record {
    shards = r.shards;
    config = r.config;
    logs = r.logs;
    seats = seats_split key (steps_of r.config) s.views id v r.seats at bare share;
    hands = hands_split r.shards s.words s.homes s.views id v r.hands at idle;
    seen = seen_split key r.shards s.views id v r.seen at;
    live = live_split (unended r.config) _ s.views id v r.live at ahead behind;
    spent = spent_split key (steps_of r.config) _ _ s.views id v r.spent at;
    parked = parked_split key r.shards s.views id v r.parked at;
  }

  pub glues : (id : ℕ) (v : View) (other : ℕ) (w : View) → v.hand.hand ≡ 0 → w.hand.hand ≡ 0 → 0 < v.seats → Joins (Keeps key) id v other w (both v w) spent_view
  glues id v other w idle rests share s r at apart there = let was = was_at s.views id other (both v w) w apart there in record {
    shards = r.shards;
    config = r.config;
    logs = r.logs;
    seats = seats_join key (steps_of r.config) s.views id other v w r.seats at was there share;
    hands = hands_join r.shards s.words s.homes s.views id other v w r.hands at apart there idle rests;
    seen = seen_join key r.shards s.views id other v w r.seen at was;
    live = live_join (unended r.config) _ s.views id other v w r.live at was there;
    spent = spent_join key (steps_of r.config) _ _ s.views id other v w r.spent at was there;
    parked = parked_join key r.shards s.views id other v w r.parked at there;
  }

abbrev pub first_slot : List (ℕ × Slot) → Slot
first_slot [] = None
first_slot (c ∷ cs) = c.1
