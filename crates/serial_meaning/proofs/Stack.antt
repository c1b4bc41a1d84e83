-- The serial run: the last of the threads that have not ended goes on, its step keeps the list, and the end or the limit tells the meaning.
use Rattle.std.proofs.Common.{◌≡◌, ◌≢◌, ℕ, zero, suc, ◌+◌, ◌-◌, ◌^◌, ◌<◌, ◌≤◌, List, [], ◌∷◌, ◌++◌, Option, Some, None, length, ◌⊎◌, inl, inr, refl, sym, ◌∙◌, ap, subst, arith, length-append, append_assoc}
use Rattle.std.specs.Prelude.{Result, Ok, Err, OnOk}
use Rattle.std.specs.Option.{option_and_then}
use Rattle.std.specs.List.{AllByRecursion}
use Rattle.std.proofs.lemmas.Bool.{cases_lt}
use Rattle.std.proofs.lemmas.List.{same_from_push}
use Rattle.std.proofs.lemmas.Option.{same_Some, none-some}
use Rattle.priml_syntax.specs.declared.event.Event.{Event}
use Rattle.priml_syntax.specs.declared.event.Event.TheVariants.{Start, Plain, Spawn, Join, Read, Wrote, End}
use Rattle.priml_syntax.specs.Values.{Outcome', Entry}
use Rattle.priml_syntax.specs.Paths.{Before, child_path}
use Rattle.priml_syntax.specs.Events.{spawns, one_spawn}
use Rattle.priml_syntax.specs.Records.{work}
use Rattle.cost_graph.specs.Records.{AreFinished, parts_of}
use Rattle.core_steps.specs.Steps.{Job, outcome_in}
use Rattle.core_steps.specs.Config.{Thread, thread_by_path, after, chosen, followed, begin, Reached, ReachedIn, IsFinished, WaitsOn, records_of}
use Rattle.core_steps.specs.Configs.{SlotFields, threads_from, AreSlots, AreRecords, Advances}
use Rattle.core_steps.specs.Determined.{events_in, events_of, IsIn, HasEnded, steps_of}
use Rattle.core_steps.specs.Laws.{IsChecked, CoreLaws, CheckedLaws}
use Rattle.core_steps.specs.Meaning.{meaning, Meaning, Over, Finished}
use Rattle.core_steps.proofs.CoreLaws.{core_laws}
use Rattle.core_steps.proofs.CheckedLaws.{checked_laws}
use Rattle.core_steps.proofs.Interleavings.{finished_agrees}
use Rattle.core_steps.proofs.Order.{before_irreflexive, before_transitive}
use Rattle.core_steps.proofs.StepFacts.{ended_or_live}
use Rattle.core_steps.proofs.StepNames.{awaited_named, names_before}
use Rattle.core_steps.proofs.Named.{named, spawns_push, push_not_nil}
use Rattle.core_steps.proofs.Threads.{same_or_not, found_first, found_behind, found_path, found_each}
use Rattle.core_steps.proofs.Closed.{Closed, Choice, choice, given_ended, events_moved, events_others, in_stays}
use Rattle.core_steps.proofs.Starts.{reached_closed, followed_append}
use Rattle.serial_meaning.specs.declared.serial.Active.{Active}
use Rattle.serial_meaning.specs.Inside.Serial.{Falls, Has, IsActive, IsStack, Serial, MayGo, GoesOnAt, MaySpawn, left_of, roots_below}
use Rattle.serial_meaning.proofs.Spawning.{spawn_has_room}

-- lists of threads that have not ended
all_front : {X : Type 0} (P : X → Type 0) (xs ys : List X) → AllByRecursion P (xs ++ ys) → AllByRecursion P xs
all_front P [] ys a = tt
all_front P (x ∷ xs) ys a = (a.0, all_front P xs ys a.1)

all_back : {X : Type 0} (P : X → Type 0) (xs ys : List X) → AllByRecursion P (xs ++ ys) → AllByRecursion P ys
all_back P [] ys a = a
all_back P (x ∷ xs) ys a = all_back P xs ys a.1

all_both : {X : Type 0} (P : X → Type 0) (xs ys : List X) → AllByRecursion P xs → AllByRecursion P ys → AllByRecursion P (xs ++ ys)
all_both P [] ys a b = b
all_both P (x ∷ xs) ys a b = (a.0, all_both P xs ys a.1 b)

has_cases : (xs ys : List Active) (p : List ℕ) → Has (xs ++ ys) p → Has xs p ⊎ Has ys p
has_cases [] ys p h = inr h
has_cases (x ∷ xs) ys p (inl e) = inl (inl e)
has_cases (x ∷ xs) ys p (inr h) = elim (has_cases xs ys p h) [ inl a ↦ inl (inr a) | inr a ↦ inr a ]

has_front : (xs ys : List Active) (p : List ℕ) → Has xs p → Has (xs ++ ys) p
has_front [] ys p h = absurd h
has_front (x ∷ xs) ys p (inl e) = inl e
has_front (x ∷ xs) ys p (inr h) = inr (has_front xs ys p h)

has_back : (xs ys : List Active) (p : List ℕ) → Has ys p → Has (xs ++ ys) p
has_back [] ys p h = h
has_back (x ∷ xs) ys p h = inr (has_back xs ys p h)

-- what holds of each holds of that which has the path
all_has : (P : List ℕ → Type 0) (xs : List Active) (p : List ℕ) → AllByRecursion (λ x. P x.path) xs → Has xs p → P p
all_has P [] p a h = absurd h
all_has P (x ∷ xs) p a (inl e) = subst P e a.0
all_has P (x ∷ xs) p a (inr h) = all_has P xs p a.1 h

-- the last comes before each other
last_before : (xs : List Active) (a : Active) → Falls (xs ++ a ∷ []) → AllByRecursion (λ x. Before a.path x.path) xs
last_before [] a f = tt
last_before (x ∷ xs) a f = ((all_back (λ y. Before y.path x.path) xs (a ∷ []) f.0).0, last_before xs a f.1)

-- others that come before what the last came before may stand in its place
falls_on : (xs ys : List Active) (a : Active) → Falls (xs ++ a ∷ []) → Falls ys → ((q : List ℕ) → Before a.path q → AllByRecursion (λ y. Before y.path q) ys) → Falls (xs ++ ys)
falls_on [] ys a f g h = g
falls_on (x ∷ xs) ys a f g h =
    (all_both (λ y. Before y.path x.path) xs ys (all_front (λ y. Before y.path x.path) xs (a ∷ []) f.0) (h x.path (all_back (λ y. Before y.path x.path) xs (a ∷ []) f.0).0), falls_on xs ys a f.1 g h)

-- the last thread may go on
module _ (job : Job) (ts : List Thread) (xs : List Active) (a : Active) (r : Reached job ts) (s : IsStack ts (xs ++ a ∷ [])) where
  top : IsActive ts a
  top = (all_back (IsActive ts) xs (a ∷ []) s.each).0

  not_before : (b : List ℕ) → Before b a.path → Has (xs ++ a ∷ []) b → ⊥
  not_before b l h = elim (has_cases xs (a ∷ []) b h) [
    | inl k ↦ before_irreflexive b (before_transitive b a.path b l (all_has (Before a.path) xs b (last_before xs a s.falls) k))
    | inr k ↦ elim k [ inl e ↦ before_irreflexive b (subst (Before b) e l) | inr e ↦ absurd e ]
  ]

  waits_not : (b : List ℕ) → WaitsOn ts a.path b → ⊥
  waits_not b w = waits (reached_closed job ts r)
    where
      waits : Closed job ts → ⊥
      waits k =
          let i : IsIn ts b = awaited_named (IsIn ts) w.0.state b (k.names a.path w.0 w.1) w.2 in
          let m : Before b a.path = awaited_named (λ q. Before q a.path) w.0.state b (names_before (k.ran a.path w.0 w.1)) w.2 in
          elim (ended_or_live i.0.state.phase) [
            | inl o ↦ none-some (Some o.0) (sym w.3 ∙ given_ended ts b i.0 o.0 i.1 o.1)
            | inr n ↦ not_before b m (s.all b i (λ h. none-some h.1 (sym n ∙ (ap (λ x. outcome_in x.state.phase) (same_Some i.0 h.0 (sym i.1 ∙ h.2)) ∙ h.3))))
          ]

  may_go : MayGo ts a.path
  may_go = record { there = λ e. none-some top.there.0 (sym e ∙ top.there.1); live = top.live; free = waits_not }

pub goes_on : (job : Job) (n : ℕ) (ss : List SlotFields) (ys xs : List Active) (a : Active) → Serial job n ss ys → ys ≡ xs ++ a ∷ [] → GoesOnAt job ss a.path
goes_on job n ss ys xs a c e ts reads =
    let same : c.threads ≡ ts = same_Some c.threads ts (sym c.reads ∙ reads) in
    subst (λ us. MayGo us a.path) same (may_go job c.threads xs a (n, c.reached) (subst (IsStack c.threads) e c.stack))

-- its step keeps the list
module _ (job : Job) (ts : List Thread) (us : List Thread) (xs : List Active) (a : Active) (e : Event) (r : Reached job ts) (r' : Reached job us) (s : IsStack ts (xs ++ a ∷ []))
    (moved : events_of us a.path ≡ events_of ts a.path ++ e ∷ []) (others : (q : List ℕ) → q ≢ a.path → events_of us q ≡ events_of ts q) (stays : (q : List ℕ) → IsIn ts q → IsIn us q) where
  laws : CoreLaws job
  laws = core_laws job

  old : IsActive ts a
  old = top job ts xs a r s

  -- the events tell whether a thread has ended
  ended_us : (q : List ℕ) → q ≢ a.path → HasEnded us q → HasEnded ts q
  ended_us q n h = let x = (laws.counts.last us q r').0 h in (laws.counts.last ts q r).1 (x.0, sym (others q n) ∙ x.1)

  ended_ts : (q : List ℕ) → q ≢ a.path → HasEnded ts q → HasEnded us q
  ended_ts q n h = let x = (laws.counts.last ts q r).0 h in (laws.counts.last us q r').1 (x.0, others q n ∙ x.1)

  top_live : e ≢ End → HasEnded us a.path → ⊥
  top_live n h = let x = (laws.counts.last us a.path r').0 h in n (same_from_push (events_of ts a.path) x.0 e End (sym moved ∙ x.1)).1

  top_ended : e ≡ End → HasEnded us a.path
  top_ended z = (laws.counts.last us a.path r').1 (events_of ts a.path, moved ∙ ap (λ x. events_of ts a.path ++ x ∷ []) z)

  top_count : spawns (events_of us a.path) ≡ a.children + one_spawn e
  top_count = ap spawns moved ∙ (spawns_push (events_of ts a.path) e ∙ ap (λ k. k + one_spawn e) old.counted)

  abbrev child : List ℕ
  child = child_path a.path a.children

  child_new : IsIn ts child → ⊥
  child_new i = elim ((laws.threads ts child r).0 i) [
    | inl k ↦ path_some (same_from_push a.path [] a.children k.0 k.2).0
    | inr k ↦ (let z = same_from_push a.path k.0 a.children k.1 k.2 in omega (arith, k.3, ap (λ q. spawns (events_of ts q)) (sym z.0), z.1, old.counted))
  ]
    where
      path_some : a.path ≡ [] → ⊥
      path_some z = let x = (reached_closed job ts r).ran a.path old.there.0 old.there.1 in (named x).some z

  child_other : child ≢ a.path
  child_other z = omega (arith, ap length z, length-append a.path (a.children ∷ []))

  child_quiet : events_of us child ≡ []
  child_quiet = others child child_other ∙ go (thread_by_path ts child) refl
    where
      go : (o : Option Thread) → thread_by_path ts child ≡ o → events_of ts child ≡ []
      go None z = ap events_in z
      go (Some t) z = absurd (child_new (t, z))

  child_active : e ≡ Spawn → IsActive us (record { path = child; children = 0 })
  child_active z = record {
    there = (laws.threads us child r').1 (inr (a.path, a.children, refl, omega (arith, top_count, ap one_spawn z)));
    live = λ h. let x = (laws.counts.last us child r').0 h in push_not_nil x.0 End (sym x.1 ∙ child_quiet);
    counted = ap spawns child_quiet;
  }

  top_active : e ≢ End → (k : ℕ) → k ≡ a.children + one_spawn e → IsActive us (record { path = a.path; children = k })
  top_active n k z = record { there = stays a.path old.there; live = top_live n; counted = top_count ∙ sym z }

  other_active : (x : Active) → Before a.path x.path → IsActive ts x → IsActive us x
  other_active x l i =
      let n : x.path ≢ a.path = λ z. before_irreflexive a.path (subst (Before a.path) z l) in
      record { there = stays x.path i.there; live = λ h. i.live (ended_us x.path n h); counted = ap spawns (others x.path n) ∙ i.counted }

  all_active : (xs : List Active) → AllByRecursion (λ x. Before a.path x.path) xs → AllByRecursion (IsActive ts) xs → AllByRecursion (IsActive us) xs
  all_active [] b c = tt
  all_active (x ∷ xs) b c = (other_active x b.0 c.0, all_active xs b.1 c.1)

  -- a thread that is there was there before, or is the child
  was_there : (p : List ℕ) → IsIn us p → IsIn ts p ⊎ ((e ≡ Spawn) × (p ≡ child))
  was_there p i = elim ((laws.threads us p r').0 i) [
    | inl k ↦ inl ((laws.threads ts p r).1 (inl k))
    | inr k ↦ elim (same_or_not k.0 a.path) [
      | inr n ↦ inl ((laws.threads ts p r).1 (inr (k.0, k.1, k.2, omega (arith, k.3, ap spawns (others k.0 n)))))
      | inl z ↦ elim (cases_lt k.1 (spawns (events_of ts k.0))) [
        | inl l ↦ inl ((laws.threads ts p r).1 (inr (k.0, k.1, k.2, l)))
        | inr l ↦ (let f : spawns (events_of us k.0) ≡ a.children + one_spawn e = ap (λ q. spawns (events_of us q)) z ∙ top_count in
            let g : spawns (events_of ts k.0) ≡ a.children = ap (λ q. spawns (events_of ts q)) z ∙ old.counted in
            let y = late e k.1 (omega (arith, k.3, f)) (omega (arith, l, g)) in
            inr (y.0, k.2 ∙ (ap (λ q. child_path q k.1) z ∙ ap (child_path a.path) y.1)))
      ]
    ]
  ]
    where
      late : (x : Event) (j : ℕ) → j < a.children + one_spawn x → a.children ≤ j → (x ≡ Spawn) × (j ≡ a.children)
      late Spawn j l m = (refl, omega (arith, l, m))
      late x j l m = absurd (omega (arith, l, m))

  there_still : (p : List ℕ) → IsIn ts p → p ≢ a.path → (HasEnded us p → ⊥) → Has xs p
  there_still p i n h = elim (has_cases xs (a ∷ []) p (s.all p i (λ k. h (ended_ts p n k)))) [
    | inl k ↦ k
    | inr k ↦ elim k [ inl z ↦ absurd (n (sym z)) | inr z ↦ absurd z ]
  ]

  stack_of : (ys : List Active) → AllByRecursion (IsActive us) ys → Falls ys → ((q : List ℕ) → Before a.path q → AllByRecursion (λ y. Before y.path q) ys) →
      ((e ≡ End → ⊥) → Has ys a.path) → (e ≡ Spawn → Has ys child) → (e ≡ End ⊎ (e ≢ End)) → IsStack us (xs ++ ys)
  stack_of ys act falls below mine new end = record {
    each = all_both (IsActive us) xs ys (all_active xs (last_before xs a s.falls) (all_front (IsActive ts) xs (a ∷ []) s.each)) act;
    all = λ p i h. elim (was_there p i) [
      | inr k ↦ has_back xs ys p (subst (Has ys) (sym k.1) (new k.0))
      | inl k ↦ elim (same_or_not p a.path) [
        | inr n ↦ has_front xs ys p (there_still p k n h)
        | inl z ↦ elim end [
          | inl f ↦ absurd (h (subst (HasEnded us) (sym z) (top_ended f)))
          | inr f ↦ has_back xs ys p (subst (Has ys) (sym z) (mine f))
        ]
      ]
    ];
    falls = falls_on xs ys a s.falls falls below;
  }

  stays_alone : e ≢ End → e ≢ Spawn → one_spawn e ≡ 0 → IsStack us (xs ++ a ∷ [])
  stays_alone n m z = stack_of (a ∷ []) (top_active n a.children (omega (arith, z)), tt) (tt, tt) (λ q l. (l, tt)) (λ f. inl refl) (λ f. absurd (m f)) (inr n)

stack_after : (job : Job) (ts us : List Thread) (xs : List Active) (a : Active) (e : Event) → Reached job ts → Reached job us → IsStack ts (xs ++ a ∷ []) →
    events_of us a.path ≡ events_of ts a.path ++ e ∷ [] → ((q : List ℕ) → q ≢ a.path → events_of us q ≡ events_of ts q) → ((q : List ℕ) → IsIn ts q → IsIn us q) → IsStack us (xs ++ left_of a e)
stack_after job ts us xs a End r r' s m o i = stack_of job ts us xs a End r r' s m o i [] tt tt (λ q l. tt) (λ f. absurd (f refl)) (λ f. absurd (let z : End ≡ Spawn = f in let y : ⊥ = cc in y)) (inl refl)
stack_after job ts us xs a Spawn r r' s m o i =
    stack_of job ts us xs a Spawn r r' s m o i (record { path = a.path; children = a.children + 1 } ∷ record { path = child_path a.path a.children; children = 0 } ∷ [])
    (top_active job ts us xs a Spawn r r' s m o i (λ z. let y : ⊥ = cc in y) (a.children + 1) refl, (child_active job ts us xs a Spawn r r' s m o i refl, tt))
    ((inr (a.children, [], refl), tt), (tt, tt))
    (λ q l. (l, (before_transitive (child_path a.path a.children) a.path q (inr (a.children, [], refl)) l, tt)))
    (λ f. inl refl) (λ f. inr (inl refl)) (inr (λ z. let y : ⊥ = cc in y))
stack_after job ts us xs a Start r r' s m o i = stays_alone job ts us xs a Start r r' s m o i (λ z. let y : ⊥ = cc in y) (λ z. let y : ⊥ = cc in y) refl
stack_after job ts us xs a Plain r r' s m o i = stays_alone job ts us xs a Plain r r' s m o i (λ z. let y : ⊥ = cc in y) (λ z. let y : ⊥ = cc in y) refl
stack_after job ts us xs a (Join b) r r' s m o i = stays_alone job ts us xs a (Join b) r r' s m o i (λ z. let y : ⊥ = cc in y) (λ z. let y : ⊥ = cc in y) refl
stack_after job ts us xs a Read r r' s m o i = stays_alone job ts us xs a Read r r' s m o i (λ z. let y : ⊥ = cc in y) (λ z. let y : ⊥ = cc in y) refl
stack_after job ts us xs a (Wrote b) r r' s m o i = stays_alone job ts us xs a (Wrote b) r r' s m o i (λ z. let y : ⊥ = cc in y) (λ z. let y : ⊥ = cc in y) refl

reached_one_more : (job : Job) (n : ℕ) (ts us : List Thread) (p : List ℕ) → ReachedIn job n ts → chosen job ts p ≡ Some us → ReachedIn job (n + 1) us
reached_one_more job n ts us p r e =
    (r.0 ++ p ∷ [], omega (arith, r.1, length-append r.0 (p ∷ [])), followed_append job (begin job) ts us r.0 (p ∷ []) r.2 (ap (option_and_then (λ vs. followed job vs [])) e))

-- the event is that of the choice
chosen_event : (job : Job) (ts us : List Thread) (p : List ℕ) (e : Event) → Closed job ts → (c : Choice job ts p) → after ts c.thread c.move ≡ us → events_of us p ≡ events_of ts p ++ e ∷ [] → c.move.event ≡ e
chosen_event job ts us p e k c is last = (same_from_push (events_of ts p) (events_of ts p) c.move.event e (sym (events_moved job ts k p c) ∙ (ap (λ x. events_of x p) is ∙ last))).1

pub serial_on : (job : Job) (n : ℕ) (ss : List SlotFields) (ys xs : List Active) (a : Active) (e : Event) (new : List SlotFields) (zs : List Active) → Serial job n ss ys → ys ≡ xs ++ a ∷ [] → Advances job ss a.path e new → zs ≡ xs ++ left_of a e → Serial job (n + 1) new zs
serial_on job n ss ys xs a e new zs c is adv left =
    let v = adv c.threads c.reads in
    let k : Closed job c.threads = reached_closed job c.threads (n, c.reached) in
    let q = choice job c.threads a.path v.threads v.chose in
    let r : ReachedIn job (n + 1) v.threads = reached_one_more job n c.threads v.threads a.path c.reached v.chose in
    record {
      threads = v.threads;
      reads = v.reads;
      reached = r;
      stack = subst (IsStack v.threads) (sym left) (stack_after job c.threads v.threads xs a e (n, c.reached) (n + 1, r) (subst (IsStack c.threads) is c.stack) v.last
          (λ p m. ap (λ us. events_of us p) (sym q.1) ∙ events_others job c.threads k a.path q.0 p m)
          (λ p i. subst (λ us. IsIn us p) q.1 (in_stays job c.threads k a.path q.0 p i)));
    }

-- a thread that spawns has room for its child
pub may_spawn : (job : Job) (n : ℕ) (ss : List SlotFields) (ys xs : List Active) (a : Active) (e : Event) (new : List SlotFields) → Serial job n ss ys → ys ≡ xs ++ a ∷ [] → Advances job ss a.path e new → MaySpawn a e
may_spawn job n ss ys xs a e new c is adv spawn =
    let v = adv c.threads c.reads in
    let k : Closed job c.threads = reached_closed job c.threads (n, c.reached) in
    let q = choice job c.threads a.path v.threads v.chose in
    let i : IsActive c.threads a = (all_back (IsActive c.threads) xs (a ∷ []) (subst (IsStack c.threads) is c.stack).each).0 in
    let room = spawn_has_room job q.0.thread.state q.0.outcome q.0.move q.0.steps (chosen_event job c.threads v.threads a.path e k q.0 q.1 v.last ∙ spawn) in
    let path : q.0.thread.state.path ≡ a.path = found_path c.threads a.path q.0.thread q.0.found in
    let count : q.0.thread.state.children ≡ a.children = (named (k.ran a.path q.0.thread q.0.found)).children ∙ (sym (ap (λ o. spawns (events_in o)) q.0.found) ∙ i.counted) in
    (omega (arith, room.0, ap length path), omega (arith, room.1, count))

-- the roots of the start
roots_each : (P : Active → Type 0) (n : ℕ) → ((k : ℕ) → k < n → P (record { path = k ∷ []; children = 0 })) → AllByRecursion P (roots_below n)
roots_each P zero f = tt
roots_each P (suc n) f = (f n (omega arith), roots_each P n (λ k l. f k (omega (arith, l))))

roots_fall : (n : ℕ) → Falls (roots_below n)
roots_fall zero = tt
roots_fall (suc n) = (roots_each (λ y. Before y.path (n ∷ [])) n (λ k l. inl (inl l)), roots_fall n)

roots_have : (n k : ℕ) → k < n → Has (roots_below n) (k ∷ [])
roots_have zero k l = absurd (omega (arith, l))
roots_have (suc n) k l = elim (cases_lt k n) [ inl b ↦ inr (roots_have n k b) | inr g ↦ (let z : n ≡ k = omega (arith, l, g) in inl (ap (λ m. m ∷ []) z)) ]

-- one more of them
pub one_root : (n : ℕ) (xs all : List Active) → 0 < n → xs ++ roots_below n ≡ all → (xs ++ record { path = (n - 1) ∷ []; children = 0 } ∷ []) ++ roots_below (n - 1) ≡ all
one_root zero xs all l e = absurd (omega (arith, l))
one_root (suc n) xs all l e =
    let z : suc n - 1 ≡ n = omega arith in
    ap (λ k. (xs ++ record { path = k ∷ []; children = 0 } ∷ []) ++ roots_below k) z ∙ (append_assoc xs (record { path = n ∷ []; children = 0 } ∷ []) (roots_below n) ∙ e)

-- the start
pub serial_start : (job : Job) (ss : List SlotFields) (xs : List Active) → threads_from job.program ss ≡ Some (begin job) → xs ≡ roots_below (length job.program.mains) → Serial job 0 ss xs
serial_start job ss xs reads is =
    let laws : CoreLaws job = core_laws job in
    record {
      threads = begin job;
      reads = reads;
      reached = ([], refl, refl);
      stack = subst (IsStack (begin job)) (sym is) (record {
        each = roots_each (IsActive (begin job)) (length job.program.mains) (λ k l.
            let quiet : events_of (begin job) (k ∷ []) ≡ [] = laws.starts.empty (k ∷ []) in
            record {
              there = (laws.starts.roots (k ∷ [])).1 (k, l, refl);
              live = λ h. let x = (laws.counts.last (begin job) (k ∷ []) laws.starts.reached).0 h in push_not_nil x.0 End (sym x.1 ∙ quiet);
              counted = ap spawns quiet;
            });
        all = λ p i h. let x = (laws.starts.roots p).0 i in subst (Has (roots_below (length job.program.mains))) (sym x.2) (roots_have (length job.program.mains) x.0 x.1);
        falls = roots_fall (length job.program.mains);
      });
    }

-- at the limit, with a thread that has not ended, the work exceeds it
finished_is : (ts : List Thread) → AllByRecursion (λ t. (o : Outcome') × (outcome_in t.state.phase ≡ Some o)) ts → IsFinished ts
finished_is [] a = tt
finished_is (t ∷ ts) a = (a.0, finished_is ts a.1)

ended_finished : (ts : List Thread) (p : List ℕ) → IsFinished ts → IsIn ts p → HasEnded ts p
ended_finished [] p f i = absurd (none-some i.0 i.1)
ended_finished (t ∷ ts) p f i = elim (same_or_not t.state.path p) [
  | inl z ↦ (t, f.0.0, found_first t ts p z, f.0.1)
  | inr n ↦ (let x = ended_finished ts p f.1 (i.0, sym (found_behind t ts p n) ∙ i.1) in (x.0, x.1, found_behind t ts p n ∙ x.2, x.3))
]

pub over_at : (job : Job) → IsChecked job → (n limit : ℕ) (ss : List SlotFields) (xs : List Active) → Serial job n ss xs → 0 < length xs → limit ≤ n → meaning job limit ≡ Over
over_at job checked n limit ss xs c some l = go (meaning job limit) refl
  where
    laws : CheckedLaws job
    laws = checked_laws job checked

    unfinished : (ys : List Active) → AllByRecursion (IsActive c.threads) ys → 0 < length ys → IsFinished c.threads → ⊥
    unfinished [] a s f = omega (arith, s)
    unfinished (y ∷ ys) a s f = a.0.live (ended_finished c.threads y.path f a.0.there)

    longer : (rs : List Entry) → meaning job limit ≡ Finished rs → ⊥
    longer rs e =
        let x = laws.always_a_step c.threads (n, c.reached) (unfinished xs c.stack.each some) in
        let r : ReachedIn job (n + 1) x.1 = (c.reached.0 ++ x.0 ∷ [], omega (arith, c.reached.1, length-append c.reached.0 (x.0 ∷ [])), followed_append job (begin job) c.threads x.1 c.reached.0 (x.0 ∷ []) c.reached.2 x.2) in
        let b = (core_laws job).bounded.never_longer x.1 rs limit (n + 1, r) e in
        omega (arith, b.0, b.1, (core_laws job).counts.steps x.1 (n + 1) r, l)

    go : (m : Meaning) → meaning job limit ≡ m → meaning job limit ≡ Over
    go Over e = e
    go (Finished rs) e = absurd (longer rs e)

-- at the end all have ended, and the records are those of the meaning
all_ended : (job : Job) (n : ℕ) (ss : List SlotFields) → (c : Serial job n ss []) → IsFinished c.threads
all_ended job n ss c =
    finished_is c.threads (found_each (λ t. (o : Outcome') × (outcome_in t.state.phase ≡ Some o)) c.threads (reached_closed job c.threads (n, c.reached)).order
    (λ p t e. elim (ended_or_live t.state.phase) [
      | inl o ↦ o
      | inr l ↦ absurd (c.stack.all p (t, e) (λ h. none-some h.1 (sym l ∙ (ap (λ x. outcome_in x.state.phase) (same_Some t h.0 (sym e ∙ h.2)) ∙ h.3))))
    ]))

pub told_at_end : (job : Job) (n limit : ℕ) (ss : List SlotFields) (c : Serial job n ss []) (is : AreSlots job ss) (rs : List Entry) → n ≤ limit → AreRecords job is.threads (Some rs) → meaning job limit ≡ Finished rs
told_at_end job n limit ss c is rs l told =
    let same : is.threads ≡ c.threads = same_Some is.threads c.threads (sym is.reads ∙ c.reads) in
    let r : records_of c.threads ≡ Some rs = ap records_of (sym same) ∙ told.1 in
    let steps : steps_of c.threads ≡ n = (core_laws job).counts.steps c.threads n c.reached in
    let w = (finished_agrees job c.threads rs (steps_of c.threads) (n, c.reached) r (omega arith)).1 in
    told.2 limit (omega (arith, w, steps, l))

pub none_at_end : (job : Job) (n : ℕ) (ss : List SlotFields) (c : Serial job n ss []) (is : AreSlots job ss) → AreRecords job is.threads None → ⊥
none_at_end job n ss c is told = told (subst IsFinished (same_Some c.threads is.threads (sym c.reads ∙ is.reads)) (all_ended job n ss c))

-- below 2 ^ 32 steps the records are those of a finished job
pub finished_below : (job : Job) → IsChecked job → (limit : ℕ) (rs : List Entry) → meaning job limit ≡ Finished rs → limit < 2 ^ 32 → AreFinished (parts_of rs)
finished_below job checked limit rs e l =
    let within : work rs ≤ limit = ((core_laws job).bounded.never_longer (begin job) rs limit (core_laws job).starts.reached e).1 in
    ((checked_laws job checked).graphs.meant rs limit e).finished (omega (arith, within, l))

-- what an answer promises may be weakened
pub on_ok : {X E : Type 0} (r : Result X E) (P Q : Type 0) → (P → Q) → OnOk r P → OnOk r Q
on_ok (Ok x) P Q f h = f h
on_ok (Err e) P Q f h = tt
