-- The logs of a closed board beside the threads of the configuration that it reads as.
use Rattle.std.proofs.Common.{◌≡◌, ℕ, zero, suc, ◌<◌, List, [], ◌∷◌, map, Bool, true, false, true≢false, cond, Some, ⊎_elim, sym, refl, ap, ◌∙◌, subst, arith}
use mathlib.Core.Logic.{dite}
use mathlib.Core.Option.{some, some-injective, some-ne-none}
use native.Mathlib.Decide.{dec_lt}
use lib.ListN.{get_elem?}
use Rattle.std.specs.List.{AllByRecursion, Contains}
use Rattle.std.proofs.lemmas.List.{get_or_past}
use Rattle.std.proofs.lemmas.List.Elements.{All-contains, All-from_recursion, Contains-append_left, Contains-append_right}
use Rattle.std.proofs.lemmas.Option.{same_Some, none-some}
use Rattle.priml_syntax.specs.Paths.{same_path}
use Rattle.priml_syntax.proofs.Orders.{same_path_is}
use Rattle.core_steps.specs.Config.{Thread, thread_by_path, IsFinished}
use Rattle.core_steps.specs.Determined.{events_in}
use Rattle.core_steps.specs.Steps.{outcome_in}
use Rattle.priml_syntax.specs.Values.{Outcome'}
use Rattle.core_steps.proofs.CoreLaws.{core_laws}
use Rattle.core_steps.proofs.Starts.{reached_closed}
use Rattle.core_steps.proofs.Threads.{same_or_not, found_first, found_behind, found_each, found_path}
use Rattle.trace_book.specs.Log.{Log}
use Rattle.task_state.specs.Books.{IsLogOf, ReadAs}
use Rattle.join_board.specs.Close.{logs_in}
use Rattle.join_board.specs.Entries.{Entry}
use Rattle.join_board.specs.Jobs.{the_job}
use Rattle.join_board.specs.Logs.{log_in, log_of, shard_at, shard_of}
use Rattle.join_board.specs.Rule.{KeepsLogs}
use Rattle.join_board.specs.Threads.{ended}
use Rattle.join_board.specs.declared.view.About.{About}
use Rattle.join_board.proofs.Books.{all_of, entry_of}
use Rattle.join_board.proofs.Laws.{has_ended, outcome_found}
use Rattle.join_board.proofs.Seen.{log_at}
use Rattle.task_state.proofs.Sums.{at_append, at_get}

module _ {A : Type 0} where
  pub contains_at : (xs : List A) (i : ℕ) (a : A) → get_elem? xs i ≡ some a → Contains xs a
  contains_at [] i a e = absurd (some-ne-none a (sym e))
  contains_at (x ∷ xs) zero a e = (0, omega arith, some-injective x a e)
  contains_at (x ∷ xs) (suc i) a e = let h = contains_at xs i a e in (suc h.0, omega (arith, h.1), h.2)

  pub at_contains : (xs : List A) (a : A) → Contains xs a → (i : ℕ) × (get_elem? xs i ≡ some a)
  at_contains xs a h = (h.0, at_get xs h.0 a h.1 ∙ ap some h.2)

map_at : (x : List Entry) (i : ℕ) (e : Entry) → get_elem? x i ≡ some e → get_elem? (map (λ (u : Entry). u.log) x) i ≡ some e.log
map_at [] i e at = absurd (some-ne-none e (sym at))
map_at (y ∷ ys) zero e at = ap (λ (u : Entry). some u.log) (some-injective y e at)
map_at (y ∷ ys) (suc i) e at = map_at ys i e at

-- the log of an entry is among the logs
entry_log : (shards : List (List Entry)) (j i : ℕ) (e : Entry) → get_elem? (shard_at shards j) i ≡ some e → Contains (logs_in shards) e.log
entry_log [] j i e at = absurd (some-ne-none e (sym (ap (λ (x : List Entry). get_elem? x i) (sym (get_or_past [] j [] (omega arith))) ∙ at)))
entry_log (x ∷ xs) zero i e at = Contains-append_left (map (λ (u : Entry). u.log) x) (logs_in xs) e.log (contains_at (map (λ (u : Entry). u.log) x) i e.log (map_at x i e at))
entry_log (x ∷ xs) (suc j) i e at = Contains-append_right (map (λ (u : Entry). u.log) x) (logs_in xs) e.log (entry_log xs j i e at)

-- where a log comes from
pub record Source (shards : List (List Entry)) (l : Log) : Type 0 where
  pub shard : ℕ
  pub place : ℕ
  pub entry : Entry
  pub at : get_elem? (shard_at shards shard) place ≡ some entry
  pub is : entry.log ≡ l

pub source : (shards : List (List Entry)) (i : ℕ) (l : Log) → get_elem? (logs_in shards) i ≡ some l → Source shards l
source [] i l at = absurd (some-ne-none l (sym at))
source (x ∷ xs) i l at = ⊎_elim
    (λ (h : get_elem? (map (λ (u : Entry). u.log) x) i ≡ some l). let t = entry_of x i l h in record { shard = 0; place = i; entry = t.0; at = t.1; is = t.2 })
    (λ (h : (j : ℕ) × (get_elem? (logs_in xs) j ≡ some l)). let s = source xs h.0 l h.1 in record { shard = suc s.shard; place = s.place; entry = s.entry; at = s.at; is = s.is })
    (at_append (map (λ (u : Entry). u.log) x) (logs_in xs) i l at)

-- a log that has ended has an entry
abbrev At : List Entry → List ℕ → Type 0
At x p = (i : ℕ) × (e : Entry) × (get_elem? x i ≡ some e) × (e.log.path ≡ p)

log_entry : (x : List Entry) (p : List ℕ) → ended (log_in x p) ≡ true → At x p
log_entry [] p h = absurd (true≢false (sym h))
log_entry (y ∷ ys) p h = go (same_path y.log.path p) refl h (λ k. log_entry ys p k)
  where
    go : (b : Bool) → same_path y.log.path p ≡ b → ended (cond b y.log.events (log_in ys p)) ≡ true → (ended (log_in ys p) ≡ true → At ys p) → At (y ∷ ys) p
    go true q k later = (0, y, refl, same_path_is y.log.path p q)
    go false q k later = let r = later k in (suc r.0, r.1, r.2, r.3)

-- what a path finds is there
found_in : (c : List Thread) (p : List ℕ) (t : Thread) → thread_by_path c p ≡ Some t → Contains c t
found_in [] p t e = absurd (none-some t e)
found_in (x ∷ xs) p t e = ⊎_elim
    (λ s. (0, omega arith, same_Some x t (sym (found_first x xs p s) ∙ e)))
    (λ n. let h = found_in xs p t (sym (found_behind x xs p n) ∙ e) in (suc h.0, omega (arith, h.1), h.2))
    (same_or_not x.state.path p)

abbrev HasOutcome : Thread → Type 0
HasOutcome t = (o : Outcome') × (outcome_in t.state.phase ≡ Some o)

each_outcome : (c : List Thread) → IsFinished c → AllByRecursion HasOutcome c
each_outcome [] f = tt
each_outcome (t ∷ ts) f = (f.0, each_outcome ts f.1)

module _ (key : About) (shards : List (List Entry)) (c : List Thread) (k : KeepsLogs key shards c) where
  inside : (j i : ℕ) (e : Entry) → get_elem? (shard_at shards j) i ≡ some e → j < 64
  inside j i e at = dite (dec_lt j 64) (λ l. l)
      (λ n. absurd (some-ne-none e (sym (ap (λ (x : List Entry). get_elem? x i) (sym (get_or_past shards j [] (let d = k.deep in omega (arith, d, n)))) ∙ at))))

  -- the log of an entry is that of its thread
  log_of_thread : (j i : ℕ) (e : Entry) → get_elem? (shard_at shards j) i ≡ some e → (t : Thread) → thread_by_path c e.log.path ≡ Some t → IsLogOf t e.log
  log_of_thread j i e at t found = let l = inside j i e at in let own = k.placed j l i e at in let holds = k.entries j l i e at in let prio = holds.0 in record {
    path = sym (found_path c e.log.path t found);
    prio = sym prio.3 ∙ (core_laws (the_job key)).one_state.prio e.log.path prio.0 t.events prio.1 t.state prio.2 ((core_laws (the_job key)).determined c e.log.path t k.reached found);
    events = sym (log_at (shard_at shards j) i e at own.2) ∙ (ap (λ (n : ℕ). log_in (shard_at shards n) e.log.path) (sym own.0) ∙ (sym (k.reads e.log.path) ∙ ap events_in found));
    outcome = holds.1 ∙ outcome_found c e.log.path t found;
  }

  only : (l : Log) → Contains (logs_in shards) l → (t : Thread) × Contains c t × IsLogOf t l
  only l h = let a = at_contains (logs_in shards) l h in let s = source shards a.0 l a.1 in let own = k.placed s.shard (inside s.shard s.place s.entry s.at) s.place s.entry s.at in let t = own.1 in
      (t.0, found_in c s.entry.log.path t.0 t.1, subst (IsLogOf t.0) s.is (log_of_thread s.shard s.place s.entry s.at t.0 t.1))

  each : IsFinished c → (t : Thread) → Contains c t → (l : Log) × Contains (logs_in shards) l × IsLogOf t l
  each f t h = let p = t.state.path in
      let found : thread_by_path c p ≡ Some t = All-contains (λ (x : Thread). thread_by_path c x.state.path ≡ Some x) c t
      (All-from_recursion (λ (x : Thread). thread_by_path c x.state.path ≡ Some x) c (found_each (λ (x : Thread). thread_by_path c x.state.path ≡ Some x) c (reached_closed (the_job key) c k.reached).order
      (λ q x e. subst (λ (z : List ℕ). thread_by_path c z ≡ Some x) (sym (found_path c q x e)) e))) h in
      let out = All-contains HasOutcome c t (All-from_recursion HasOutcome c (each_outcome c f)) h in
      let done : ended (log_of shards p) ≡ true = ap ended (sym (k.reads p)) ∙ has_ended (the_job key) c p k.reached (t, out.0, found, out.1) in
      let e = log_entry (shard_at shards (shard_of p)) p done in
      (e.1.log, entry_log shards (shard_of p) e.0 e.1 e.2, log_of_thread (shard_of p) e.0 e.1 e.2 t (subst (λ (z : List ℕ). thread_by_path c z ≡ Some t) (sym e.3) found))

  pub reads_as : IsFinished c → ReadAs (logs_in shards) c
  reads_as f = record { each = each f; only = only }

  pub each_entry : (P : Log → Type 0) → ((j i : ℕ) (e : Entry) → j < 64 → get_elem? (shard_at shards j) i ≡ some e → P e.log) → AllByRecursion P (logs_in shards)
  each_entry P h = all_of P (logs_in shards) (λ i l at. let s = source shards i l at in subst P s.is (h s.shard s.place s.entry (inside s.shard s.place s.entry s.at) s.at))
