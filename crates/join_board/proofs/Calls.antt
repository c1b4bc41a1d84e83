-- What the calls rest on.
use Rattle.std.proofs.Common.{◌≡◌, ℕ, zero, suc, ◌+◌, ◌-◌, ◌^◌, ◌<◌, ◌≤◌, List, [], ◌∷◌, ◌++◌, length, get_or, set, sym, refl, ap, ◌∙◌, subst, inl, inr, arith, Option, Some, None, append-nil, append_assoc, length-append, is_some, cond, Bool, true, false, true≢false}
use mathlib.Core.Option.{some, some-injective, some-ne-none}
use lib.ListN.{get_elem?}
use Rattle.atomic_table.proofs.Lists.{at_longer, at_map, at_last}
use Rattle.join_board.specs.Entries.{Entry}
use Rattle.join_board.specs.declared.view.View.{View}
use Rattle.join_board.specs.declared.view.Sight.{Sight}
use Rattle.trace_book.specs.Segments.{SegmentFields}
use Rattle.task_state.specs.declared.task.Task.{Task}
use Rattle.join_board.specs.Logs.{Each, handed_out, size, spawned, finished, sight, sights, keys, shard_of, log_in, Missing, CanWait, IsAt, new_keys, appended, parked_on, fresh}
use Rattle.join_board.specs.Views.{HasSeenEnd, HasSeenSpawn}
use Rattle.join_board.specs.Inside.Views.{took_view, gave_view, back_view, ahead_view, behind_view, settled_view, quiet_view}
use Rattle.join_board.specs.Inside.Plays.{Taken, Grew, Grew_by}
use Rattle.join_board.specs.Inside.Finds.{Appended, Parked}
use Rattle.join_board.specs.Calls.{CanCommit, HasTaken, NoWork, NotListed}
use Rattle.join_board.specs.Clauses.{EndedIn, NotEndedIn}
use Rattle.join_board.proofs.Laws.{all_joins}
use Rattle.join_board.proofs.Seen.{set_at, log_at}
use Rattle.join_board.proofs.Logs.{log_missing}
use Rattle.task_state.proofs.Sums.{total_set, total_same, total_append}
use Rattle.join_board.proofs.Laws as law
use Rattle.priml_syntax.specs.declared.value.Outcome.{Outcome}
use Rattle.priml_syntax.specs.Events.{spawns, ends}
use Rattle.priml_syntax.specs.Read.{read_outcome}
use Rattle.std.specs.Option.{option_map}
use Rattle.core_steps.specs.Determined.{EndsWith, Trace}
use Rattle.core_steps.specs.Steps.{Job, State}
use Rattle.task_state.specs.Tasks.{OnlyLast, goes_on, key_of, read_task}
use Rattle.priml_syntax.specs.Values.{Outcome'}
use Rattle.std.proofs.lemmas.Option.{none-some, same_Some}
use Rattle.join_board.specs.Jobs.{the_job}
use Rattle.join_board.specs.Threads.{PrioOf, is_spawn, is_end, spawned_last, ended}
use Rattle.priml_syntax.specs.declared.event.Event.{Event}
use Rattle.priml_syntax.specs.declared.event.Event.TheVariants.{Start, Plain, Spawn, Join, Read, Wrote, End}
use Rattle.join_board.proofs.Keys.{new_same, new_snoc, new_back, drop_front, drop_longer, new_set, new_set_back, drop_kept, drop_out}

add_none : (n m : ℕ) → n + (m - m) ≡ n
add_none n m = omega arith

sub_none : (n m : ℕ) → n - (m - m) ≡ n
sub_none n m = omega arith

pub gave_back : (v : View) → gave_view v v.hand.copy ≡ back_view v
gave_back v = let x = v.hand.copy in λ i. record v {
  own = add_none v.own (size x) i;
  uncounted = add_none v.uncounted (size x) i;
  hand = record v.hand { hand = 0 };
  seen = v.seen ++ sights x;
  live = record v.live { ahead = sub_none v.live.ahead (spawned x) i; behind = add_none v.live.behind (finished x) i };
  keys = record { parked = (ap (λ ks. v.keys.parked ++ ks) (new_same x) ∙ append-nil v.keys.parked) i; handed = (ap (λ ks. v.keys.handed ++ ks) (new_same x) ∙ append-nil v.keys.handed) i };
}

pub last_of : (es : List Event) (n : ℕ) (e : Event) → length es ≡ n + 1 → e ≡ get_or es n e → is_spawn e ≡ spawned_last es
last_of [] n e l h = absurd (omega (arith, l))
last_of (x ∷ []) zero e l h = ap is_spawn h
last_of (x ∷ []) (suc n) e l h = absurd (omega (arith, l))
last_of (x ∷ y ∷ ys) zero e l h = absurd (omega (arith, l))
last_of (x ∷ y ∷ ys) (suc n) e l h = last_of (y ∷ ys) n e (omega (arith, l)) h

pub no_last : (es : List Event) → length es ≤ 0 → false ≡ spawned_last es
no_last [] h = refl
no_last (x ∷ xs) h = absurd (omega (arith, h))

-- what one event counts for
alone : (e : Event) → (spawns (e ∷ []) ≡ cond (is_spawn e) 1 0) × (ends (e ∷ []) ≡ cond (is_end e) 1 0)
alone Start = (refl, refl)
alone Plain = (refl, refl)
alone Spawn = (refl, refl)
alone (Join b) = (refl, refl)
alone Read = (refl, refl)
alone (Wrote n) = (refl, refl)
alone End = (refl, refl)

spawns_none : (e : Event) → goes_on e ≡ true → spawns (e ∷ []) ≡ 0
spawns_none Spawn h = absurd (true≢false (sym h))
spawns_none e h = refl

ends_none : (e : Event) → goes_on e ≡ true → ends (e ∷ []) ≡ 0
ends_none End h = absurd (true≢false (sym h))
ends_none e h = refl

-- where Spawn and End stand only as the last, they are counted by the last
pub spawns_last : (es : List Event) → OnlyLast es → spawns es ≡ cond (spawned_last es) 1 0
spawns_last [] h = refl
spawns_last (x ∷ []) h = (alone x).0
spawns_last (x ∷ y ∷ ys) h = let o = spawns_last (y ∷ ys) h.1 in let a = spawns_none x h.0 in omega (arith, o, a)

pub ends_last : (es : List Event) → OnlyLast es → ends es ≡ cond (ended es) 1 0
ends_last [] h = refl
ends_last (x ∷ []) h = (alone x).1
ends_last (x ∷ y ∷ ys) h = let o = ends_last (y ∷ ys) h.1 in let a = ends_none x h.0 in omega (arith, o, a)

pub settled : (v : View) (n : ℕ) (x : List Entry) → spawned x - spawned v.hand.copy ≡ n → behind_view (gave_view (ahead_view v n) x) 0 ≡ settled_view v x
settled v n x e = let none : n - (spawned x - spawned v.hand.copy) ≡ 0 = omega (arith, e) in λ i. record (settled_view v x) { live = record v.live { ahead = none i; behind = 0 } }

seen_longer : (v : View) (k : ℕ) (x : List Entry) (b : List ℕ) → HasSeenEnd v b → HasSeenEnd (took_view v k x) b
seen_longer v k x b h = (h.0, h.1, at_longer v.seen (sights x) h.0 h.1 h.2, h.3, h.4)

-- a segment that begins where the log ends may be given
pub grows : (v : View) (k : ℕ) (x y : List Entry) (i : ℕ) (s : SegmentFields) (ts : List Task) (n m : ℕ) → CanCommit v s → IsAt x s.path i → Appended x i s y ts → ((e : Entry) → get_elem? x i ≡ some e → length e.log.events ≡ s.from) → v.own + length s.events ≤ 2 ^ 59
    → v.live.behind ≡ 0 → spawns s.events ≡ n → ends s.events ≡ m → m ≤ 1 → (g : Grew_by (ahead_view (took_view v k x) n) k y) × (spawns g.segment.events ≡ n) × (ends g.segment.events ≡ m)
grows v k x y i s ts n m can at put starts room still spawn end few = let e = put.0 in let same : at.0 ≡ e = some-injective at.0 e (sym at.1 ∙ put.1) in (
  record {
    at = i;
    entry = e;
    segment = s;
    there = put.1;
    is = put.2;
    path = sym at.2 ∙ ap (λ (u : Entry). u.log.path) same;
    from = sym (starts e put.1);
    steps = can.0;
    joins = all_joins (HasSeenEnd v) (HasSeenEnd (took_view v k x)) (seen_longer v k x) s.events can.3;
    quantum = can.1;
    worker = can.2;
    room = room;
    ahead = omega (arith, spawn);
    behind = omega (arith, still, spawn, end, few);
  },
  spawn,
  end,
)

-- what the tests of the body say of the segment
pub spawn_is : (v : View) (s : SegmentFields) → CanCommit v s → (b : Bool) → b ≡ spawned_last s.events → spawns s.events ≡ cond b 1 0
spawn_is v s can b e = spawns_last s.events can.0.only_last ∙ ap (λ c. cond c 1 0) (sym e)

some_map : (o : Option Outcome) → is_some (option_map read_outcome o) ≡ is_some o
some_map None = refl
some_map (Some x) = refl

pub end_is : (v : View) (s : SegmentFields) → CanCommit v s → (b : Bool) → b ≡ is_some s.outcome → ends s.events ≡ cond b 1 0
end_is v s can b e = ends_last s.events can.0.only_last ∙ ap (λ c. cond c 1 0) (law.last_end (the_job v.about) s.path s.from s.events can.0.state can.0.trace can.0.some ∙ (ap is_some (sym can.0.outcome) ∙ (some_map s.outcome ∙ sym e)))

pub bit_few : (b : Bool) → cond b 1 0 ≤ 1
bit_few true = omega arith
bit_few false = omega arith

pub grown : (x y : List Entry) (i : ℕ) (s : SegmentFields) (ts : List Task) → Appended x i s y ts → size y - size x ≡ length s.events
grown x y i s ts put = let e = put.0 in let h = total_set (λ (u : Entry). length u.log.events) x i e (appended e s) put.1 in let l = length-append e.log.events s.events in let z = ap size put.2 in omega (arith, h, l, z)

pub at_behind : {A : Type 0} (xs ys : List A) (j : ℕ) (a : A) → get_elem? ys j ≡ some a → (i : ℕ) × (get_elem? (xs ++ ys) i ≡ some a)
at_behind [] ys j a e = (j, e)
at_behind (x ∷ xs) ys j a e = let h = at_behind xs ys j a e in (suc h.0, h.1)

ended_append : (xs ys : List Event) → 0 < length ys → ended (xs ++ ys) ≡ ended ys
ended_append [] ys some_event = refl
ended_append (x ∷ []) [] some_event = absurd (omega (arith, some_event))
ended_append (x ∷ []) (y ∷ ys) some_event = refl
ended_append (x ∷ z ∷ zs) ys some_event = ended_append (z ∷ zs) ys some_event

-- the seat has seen the log as it gave it
pub sees_appended : (seen : List Sight) (x y : List Entry) (i : ℕ) (s : SegmentFields) (ts : List Task) → IsAt x s.path i → Appended x i s y ts → ((e : Entry) → get_elem? x i ≡ some e → length e.log.events ≡ s.from) → 0 < length s.events
    → (j : ℕ) × (t : Sight) × (get_elem? (seen ++ sights y) j ≡ some t) × (t.path ≡ s.path) × (t.length ≡ s.from + length s.events) × (t.ended ≡ ended s.events)
sees_appended seen x y i s ts at put starts some_event = let e = put.0 in let same : at.0 ≡ e = some-injective at.0 e (sym at.1 ∙ put.1) in let e' = appended e s in
    let there : get_elem? (sights y) i ≡ some (sight e') = subst (λ (z : List Entry). get_elem? (sights z) i ≡ some (sight e')) (sym put.2) (at_map sight (set x i e') i e' (set_at x i e e' put.1)) in let b = at_behind seen (sights y) i (sight e') there in
    (b.0, sight e', b.1, ap (λ (u : Entry). u.log.path) (sym same) ∙ at.2, (let l = length-append e.log.events s.events in let n = starts e put.1 in omega (arith, l, n)), ended_append e.log.events s.events some_event)

pub hands : (x y : List Entry) (i : ℕ) (s : SegmentFields) (ts : List Task) → Appended x i s y ts → (new_keys y x ≡ keys ts) × (new_keys x y ≡ [])
hands x y i s ts put = let e = put.0 in let f = appended e s in (
  ap (λ (z : List Entry). new_keys z x) put.2 ∙ (new_set_back x i e f put.1 ∙ (ap keys (drop_out s.outcome e.waiting) ∙ ap keys (sym put.3))),
  ap (new_keys x) put.2 ∙ (new_set x i e f put.1 ∙ ap keys (drop_kept s.outcome e.waiting)),
)

pub gave_quiet : (v : View) (x : List Entry) → size x ≡ size v.hand.copy → spawned x ≡ spawned v.hand.copy → finished x ≡ finished v.hand.copy → gave_view v x ≡ quiet_view v x
gave_quiet v x a b c = let own : v.own + (size x - size v.hand.copy) ≡ v.own = omega (arith, a) in let uncounted : v.uncounted + (size x - size v.hand.copy) ≡ v.uncounted = omega (arith, a) in
    let ahead : v.live.ahead - (spawned x - spawned v.hand.copy) ≡ v.live.ahead = omega (arith, b) in let behind : v.live.behind + (finished x - finished v.hand.copy) ≡ v.live.behind = omega (arith, c) in
    λ i. record (quiet_view v x) { own = own i; uncounted = uncounted i; live = record v.live { ahead = ahead i; behind = behind i } }

-- a thread may be enrolled
pub enrolls : (v : View) (k : ℕ) (x y : List Entry) (p : List ℕ) (a : ℕ) → y ≡ x ++ fresh p a ∷ [] → shard_of p ≡ k → Missing x p → HasSeenSpawn v p → PrioOf (the_job v.about) p a → Grew (took_view v k x) k y
enrolls v k x y p a is here missing sp prio = inr (inr (inl (record { path = p; prio = a; is = is; here = here; missing = missing; spawned = (sp.0, sp.1, at_longer v.seen (sights x) sp.0 sp.1 sp.2, sp.3); priority = prio })))

pub sums_snoc : (x y : List Entry) (p : List ℕ) (a : ℕ) → y ≡ x ++ fresh p a ∷ [] → (size y ≡ size x) × (spawned y ≡ spawned x) × (finished y ≡ finished x)
sums_snoc x y p a is = let e = fresh p a in (
  (let i = ap size is in let h = total_append (λ (u : Entry). length u.log.events) x (e ∷ []) in omega (arith, i, h)),
  (let i = ap spawned is in let h = total_append (λ (u : Entry). spawns u.log.events) x (e ∷ []) in omega (arith, i, h)),
  (let i = ap finished is in let h = total_append (λ (u : Entry). ends u.log.events) x (e ∷ []) in omega (arith, i, h)),
)

pub keys_snoc : (x y : List Entry) (p : List ℕ) (a : ℕ) → y ≡ x ++ fresh p a ∷ [] → (new_keys x y ≡ []) × (new_keys y x ≡ [])
keys_snoc x y p a is = (ap (new_keys x) is ∙ new_snoc x (fresh p a ∷ []), ap (λ (z : List Entry). new_keys z x) is ∙ new_back x (fresh p a ∷ []))

pub sees_entry : (seen : List Sight) (x : List Entry) (i : ℕ) (e : Entry) → get_elem? x i ≡ some e → (j : ℕ) × (get_elem? (seen ++ sights x) j ≡ some (sight e))
sees_entry seen x i e at = at_behind seen (sights x) i (sight e) (at_map sight x i e at)

pub fresh_at : (x y : List Entry) (p : List ℕ) (a : ℕ) → y ≡ x ++ fresh p a ∷ [] → get_elem? y (length x) ≡ some (fresh p a)
fresh_at x y p a is = ap (λ (z : List Entry). get_elem? z (length x)) is ∙ at_last x (fresh p a) (length x) refl

-- what the seat had seen of the thread is no more than was in hand
pub met_at : (v : View) (k : ℕ) (x : List Entry) (p : List ℕ) (n : ℕ) → Taken v k x → shard_of p ≡ k → length (log_in x p) ≡ n → (i : ℕ) (t : Sight) → get_elem? v.seen i ≡ some t → t.path ≡ p → t.length ≤ n
met_at v k x p n taken here is i t at same = let m = (taken.met i t at (ap (λ (z : List ℕ). shard_of z) same ∙ here)).0 in let l = ap (λ (z : List ℕ). length (log_in x z)) same in omega (arith, m, l, is)

-- where the shard has no entry the thread is no root, and was not seen
pub not_listed : (v : View) (k : ℕ) (x : List Entry) (p : List ℕ) → Taken v k x → shard_of p ≡ k → Missing x p → NotListed v p x
not_listed v k x p taken here missing = (
  missing,
  (λ j l e. let h = taken.rooted j l (ap (λ (z : List ℕ). shard_of z) (sym e) ∙ here) in missing h.0 h.1.0 h.1.1 (h.1.2 ∙ sym e)),
  λ i t at e. let h = (taken.met i t at (ap (λ (z : List ℕ). shard_of z) e ∙ here)).2 in missing h.0 h.1.0 h.1.1 (h.1.2 ∙ e),
)

pub length_missing : (x : List Entry) (p : List ℕ) → Missing x p → length (log_in x p) ≡ 0
length_missing x p m = ap length (log_missing x p m)

pub length_here : (v : View) (k : ℕ) (x : List Entry) (p : List ℕ) (i n : ℕ) (e : Entry) → Taken v k x → get_elem? x i ≡ some e → e.log.path ≡ p → n ≡ length e.log.events → length (log_in x p) ≡ n
length_here v k x p i n e taken at path is = ap (λ (z : List ℕ). length (log_in x z)) (sym path) ∙ (ap length (log_at x i e at (λ j f g q. taken.apart i j e f at g q)) ∙ sym is)

some_outcome : (o : Option Outcome) (w : Outcome') → option_map read_outcome o ≡ Some w → (x : Outcome) × (o ≡ Some x) × (read_outcome x ≡ w)
some_outcome None w e = absurd (none-some w e)
some_outcome (Some x) w e = (x, refl, same_Some (read_outcome x) w e)

pub no_outcome : (o : Option Outcome) → option_map read_outcome o ≡ None → o ≡ None
no_outcome None e = refl
no_outcome (Some x) e = absurd (none-some (read_outcome x) (sym e))

-- a thread that makes a step has not ended
pub can_grow : (v : View) (k : ℕ) (x : List Entry) (i : ℕ) (s : SegmentFields) (e : Entry) → Taken v k x → get_elem? x i ≡ some e → e.log.path ≡ s.path → length e.log.events ≡ s.from → CanCommit v s → e.log.outcome ≡ None
can_grow v k x i s e taken at path from can = go e.log.outcome refl
  where
    t : State
    t = can.0.state

    trace : Trace (the_job v.about) e.log.path (length e.log.events) s.events t
    trace = subst (λ (z : List ℕ × ℕ). Trace (the_job v.about) z.0 z.1 s.events t) (λ j. (sym path j, sym from j)) can.0.trace

    go : (o : Option Outcome) → e.log.outcome ≡ o → e.log.outcome ≡ None
    go None h = h
    go (Some o) h = let told = taken.told i e at in let none = ap length (told.2 (told.1 o h).0 s.events t trace) in let some_step = can.0.some in absurd (omega (arith, none, some_step))

-- an entry with an outcome has ended, and the outcome is the thread's
pub told_end : (v : View) (k : ℕ) (x : List Entry) (p : List ℕ) (i : ℕ) (w : Outcome') (e : Entry) → Taken v k x → get_elem? x i ≡ some e → e.log.path ≡ p → option_map read_outcome e.log.outcome ≡ Some w
    → EndsWith (the_job v.about) p w × EndedIn x p × (ended e.log.events ≡ true)
told_end v k x p i w e taken at path is = let o = some_outcome e.log.outcome w is in let h = (taken.told i e at).1 o.0 o.1 in
    (subst (λ (z : List ℕ × Outcome'). EndsWith (the_job v.about) z.0 z.1) (λ c. (path c, o.2 c)) h.1, (e, i, at, path, h.0), h.0)

pub told_open : (v : View) (k : ℕ) (x : List Entry) (p : List ℕ) (i : ℕ) (e : Entry) → Taken v k x → get_elem? x i ≡ some e → e.log.path ≡ p → e.log.outcome ≡ None → NotEndedIn x p
told_open v k x p i e taken at path is j f g q = let same : j ≡ i = taken.apart i j e f at g (q ∙ sym path) in let equal : e ≡ f = some-injective e f (sym at ∙ (ap (get_elem? x) (sym same) ∙ g)) in ap (λ (u : Entry). ended u.log.events) (sym equal) ∙ (taken.told i e at).0 is

-- an entry that has ended, or not, by the test
pub test_end : (v : View) (k : ℕ) (x : List Entry) (p : List ℕ) (i : ℕ) (e : Entry) → Taken v k x → get_elem? x i ≡ some e → e.log.path ≡ p → is_some e.log.outcome ≡ true → EndedIn x p
test_end v k x p i e taken at path is = go e.log.outcome refl is
  where
    go : (o : Option Outcome) → e.log.outcome ≡ o → is_some o ≡ true → EndedIn x p
    go None h z = absurd (true≢false (sym z))
    go (Some o) h z = (told_end v k x p i (read_outcome o) e taken at path (ap (option_map read_outcome) h)).1

pub test_open : (o : Option Outcome) → is_some o ≡ false → o ≡ None
test_open None e = refl
test_open (Some o) e = absurd (true≢false e)

pub parks : (v : View) (k : ℕ) (x y : List Entry) (i : ℕ) (p : List ℕ) (t : Task) → Parked x i t y → ((e : Entry) → get_elem? x i ≡ some e → (e.log.path ≡ p) × (e.log.outcome ≡ None)) → CanWait (the_job v.about) p t → Grew (took_view v k x) k y
parks v k x y i p t put is can = let e = put.0 in let h = is e put.1 in inr (inr (inr (record { at = i; entry = e; task = t; there = put.1; is = put.2; goes_on = h.1; waits = subst (λ (z : List ℕ). CanWait (the_job v.about) z t) (sym h.0) can })))

pub sums_parked : (x y : List Entry) (i : ℕ) (t : Task) → Parked x i t y → (size y ≡ size x) × (spawned y ≡ spawned x) × (finished y ≡ finished x)
sums_parked x y i t put = let e = put.0 in let f = parked_on e t in (
  ap size put.2 ∙ total_same (λ (u : Entry). length u.log.events) x i e f put.1 refl,
  ap spawned put.2 ∙ total_same (λ (u : Entry). spawns u.log.events) x i e f put.1 refl,
  ap finished put.2 ∙ total_same (λ (u : Entry). ends u.log.events) x i e f put.1 refl,
)

pub keys_parked : (x y : List Entry) (i : ℕ) (t : Task) → Parked x i t y → (new_keys x y ≡ key_of (read_task t) ∷ []) × (new_keys y x ≡ [])
keys_parked x y i t put = let e = put.0 in let f = parked_on e t in (
  ap (new_keys x) put.2 ∙ (new_set x i e f put.1 ∙ ap keys (drop_front e.waiting (t ∷ []))),
  ap (λ (z : List Entry). new_keys z x) put.2 ∙ (new_set_back x i e f put.1 ∙ ap keys (drop_longer e.waiting (t ∷ []))),
)

pub twice : (v : View) (xs ys : List Sight) → (v.seen ++ xs) ++ ys ≡ v.seen ++ (xs ++ ys)
twice v xs ys = append_assoc v.seen xs ys

-- what is handed out waited for the thread
pub handed_wait : (job : Job) (p : List ℕ) (o : Option Outcome) (ts : List Task) → Each (CanWait job p) ts → Each (CanWait job p) (handed_out o ts)
handed_wait job p None ts all = λ i t at. absurd (some-ne-none t (sym at))
handed_wait job p (Some o) ts all = all

-- where the shard went back as it was taken
pub went_back : (v w : View) (k : ℕ) (x : List Entry) (p : List ℕ) → w ≡ back_view (took_view v k x) → k ≡ shard_of p → HasTaken v p w × NoWork v w
went_back v w k x p now is = (
  (ap (λ (u : View). u.hand.taken) now, ap (λ (u : View). u.hand.last) now ∙ is),
  (ap (λ (u : View). u.own) now, ap (λ (u : View). u.uncounted) now, ap (λ (u : View). u.keys) now),
)
