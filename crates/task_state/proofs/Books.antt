-- The logs of a book, one after the other, beside the threads of a configuration.
use Rattle.std.proofs.Common.{◌≡◌, ℕ, zero, suc, ◌+◌, ◌<◌, List, [], ◌∷◌, length, Option, Some, None, ◌⊎◌, inl, inr, refl, sym, ◌∙◌, ap, subst, arith}
use Rattle.std.specs.Prelude.{slice_index_or}
use Rattle.std.specs.List.{AllByRecursion, Contains, sum_by}
use Rattle.std.specs.List.Sorted.{IsPermutation}
use Rattle.std.specs.Option.{option_map}
use Rattle.std.proofs.lemmas.List.Sorted.{sum_by-IsPermutation}
use Rattle.std.proofs.lemmas.List.Sums.{sum_by-cons}
use Rattle.std.proofs.lemmas.Option.{none-some, same_Some}
use Rattle.priml_syntax.specs.declared.value.Outcome.{Outcome}
use Rattle.priml_syntax.specs.Paths.{Precedes}
use Rattle.priml_syntax.specs.Read.{read_outcome}
use Rattle.priml_syntax.specs.Records.{Each, InPathOrder, work as work_of_records}
use Rattle.priml_syntax.specs.Values.{Entry, Outcome'}
use Rattle.priml_syntax.proofs.Orders.{irreflexive, transitive}
use Rattle.core_steps.specs.Config.{Thread, IsFinished, entry_then, records_of, entry_of as thread_entry}
use Rattle.core_steps.specs.Steps.{outcome_in}
use Rattle.trace_book.specs.Book.{RiseByPath, both, entries_of, entry_of, entry_with, work}
use Rattle.trace_book.specs.Log.{Log}
use Rattle.task_state.specs.Books.{IsLogOf}

head : {X : Type 0} → (x : X) (xs : List X) → Contains (x ∷ xs) x
head x xs = (0, omega arith, refl)

more : {X : Type 0} → (y : X) (xs : List X) (x : X) → Contains xs x → Contains (y ∷ xs) x
more y xs x h = (suc h.0, omega (arith, h.1), h.2)

split : {X : Type 0} → (y : X) (xs : List X) (x : X) → Contains (y ∷ xs) x → (y ≡ x) ⊎ Contains xs x
split y xs x h = go h.0 h.1 h.2
  where
    go : (k : ℕ) → k < length (y ∷ xs) → slice_index_or (y ∷ xs) k x ≡ x → (y ≡ x) ⊎ Contains xs x
    go zero l e = inl e
    go (suc k) l e = inr (k, omega (arith, l), e)

none_in : {X : Type 0} → (x : X) → Contains [] x → ⊥
none_in x h = omega (arith, h.1)

of_each : {X : Type 0} → (P : X → Type 0) (xs : List X) (x : X) → AllByRecursion P xs → Contains xs x → P x
of_each P [] x a h = absurd (none_in x h)
of_each P (y ∷ xs) x a h = go (split y xs x h) (of_each P xs x a.1)
  where
    go : (y ≡ x) ⊎ Contains xs x → (Contains xs x → P x) → P x
    go (inl e) f = subst P e a.0
    go (inr i) f = f i

-- what fits something of a list whose first fits another path fits something of the rest
fits_rest : {A B : Type 0} → (p : A → List ℕ) (q : B → List ℕ) (R : A → B → Type 0) → ((a : A) (b : B) → R a b → q b ≡ p a) →
    (x : List ℕ) (y : B) (ys : List B) → q y ≡ x → (a : A) → Precedes x (p a) → (b : B) × Contains (y ∷ ys) b × R a b → (b : B) × Contains ys b × R a b
fits_rest p q R same x y ys e a before h = go (split y ys h.0 h.1)
  where
    go : (y ≡ h.0) ⊎ Contains ys h.0 → (b : _) × Contains ys b × R a b
    go (inl k) = absurd (irreflexive x (subst (Precedes x) (sym (same a h.0 h.2) ∙ (ap q (sym k) ∙ e)) before))
    go (inr i) = (h.0, i, h.2)

-- each thread has its log, and each log its thread
abbrev EachHasLog : List Thread → List Log → Type 0
EachHasLog c ls = (t : Thread) → Contains c t → (l : Log) × Contains ls l × IsLogOf t l

abbrev EachHasThread : List Log → List Thread → Type 0
EachHasThread ls c = (l : Log) → Contains ls l → (t : Thread) × Contains c t × IsLogOf t l

-- the first log is that of the first thread
first_log : (t : Thread) (ts : List Thread) (m : Log) (ms : List Log) → AllByRecursion (λ (u : Thread). Precedes t.state.path u.state.path) ts → AllByRecursion (λ (l : Log). Precedes m.path l.path) ms →
    EachHasLog (t ∷ ts) (m ∷ ms) → EachHasThread (m ∷ ms) (t ∷ ts) → IsLogOf t m
first_log t ts m ms rt rm each only = go (split m ms a.0 a.1)
  where
    a : (l : Log) × Contains (m ∷ ms) l × IsLogOf t l
    a = each t (head t ts)

    b : (u : Thread) × Contains (t ∷ ts) u × IsLogOf u m
    b = only m (head m ms)

    later : Precedes m.path t.state.path → (t ≡ b.0) ⊎ Contains ts b.0 → ⊥
    later before (inl k) = irreflexive m.path (subst (Precedes m.path) (ap (λ (u : Thread). u.state.path) k ∙ sym b.2.path) before)
    later before (inr i) = irreflexive m.path (transitive m.path t.state.path m.path before (subst (Precedes t.state.path) (sym b.2.path) (of_each (λ (u : Thread). Precedes t.state.path u.state.path) ts b.0 rt i)))

    go : (m ≡ a.0) ⊎ Contains ms a.0 → IsLogOf t m
    go (inl k) = subst (IsLogOf t) (sym k) a.2
    go (inr i) = absurd (later (subst (Precedes m.path) a.2.path (of_each (λ (l : Log). Precedes m.path l.path) ms a.0 rm i)) (split t ts b.0 b.1))

-- the log of a thread that has ended has its record
log_entry : (t : Thread) (l : Log) (o : Outcome') → IsLogOf t l → outcome_in t.state.phase ≡ Some o → entry_of l ≡ Some (thread_entry t o)
log_entry t l o is e = go l.outcome (is.outcome ∙ e)
  where
    go : (x : Option Outcome) → option_map read_outcome x ≡ Some o → option_map (entry_with l) x ≡ Some (thread_entry t o)
    go None f = absurd (none-some o f)
    go (Some x) f = let s = same_Some (read_outcome x) o f in λ i. Some (record { path = is.path i; prio = is.prio i; events = is.events i; outcome = s i })

-- threads stand in the order of their records
threads_before : (p : List ℕ) (c : List Thread) (rs : List Entry) → records_of c ≡ Some rs → Each (λ r. Precedes p r.path) rs → AllByRecursion (λ (t : Thread). Precedes p t.state.path) c
threads_before p [] rs e h = tt
threads_before p (t ∷ ts) rs e h = go (outcome_in t.state.phase) (records_of ts) e (threads_before p ts)
  where
    go : (o : Option Outcome') (qs : Option (List Entry)) → entry_then o t qs ≡ Some rs → ((xs : List Entry) → qs ≡ Some xs → Each (λ r. Precedes p r.path) xs → AllByRecursion (λ (u : Thread). Precedes p u.state.path) ts) → AllByRecursion (λ (u : Thread). Precedes p u.state.path) (t ∷ ts)
    go None qs f k = absurd (none-some rs f)
    go (Some o) None f k = absurd (none-some rs f)
    go (Some o) (Some xs) f k = let a : Each (λ r. Precedes p r.path) (thread_entry t o ∷ xs) = subst (Each (λ r. Precedes p r.path)) (sym (same_Some (thread_entry t o ∷ xs) rs f)) h in (a.0, k xs refl a.1)

-- so logs in the order of paths have the records of the configuration
pub same_records : (c : List Thread) (ls : List Log) (rs : List Entry) → records_of c ≡ Some rs → InPathOrder rs → RiseByPath ls → EachHasLog c ls → EachHasThread ls c → entries_of ls ≡ Some rs
same_records [] [] rs e s r each only = e
same_records [] (m ∷ ms) rs e s r each only = let h = only m (head m ms) in absurd (none_in h.0 h.1)
same_records (t ∷ ts) [] rs e s r each only = let h = each t (head t ts) in absurd (none_in h.0 h.1)
same_records (t ∷ ts) (m ∷ ms) rs e s r each only = go (outcome_in t.state.phase) refl (records_of ts) refl e (same_records ts ms)
  where
    go : (o : Option Outcome') → outcome_in t.state.phase ≡ o → (qs : Option (List Entry)) → records_of ts ≡ qs → entry_then o t qs ≡ Some rs →
        ((xs : List Entry) → records_of ts ≡ Some xs → InPathOrder xs → RiseByPath ms → EachHasLog ts ms → EachHasThread ms ts → entries_of ms ≡ Some xs) → both (entry_of m) (entries_of ms) ≡ Some rs
    go None d qs f g k = absurd (none-some rs g)
    go (Some o) d None f g k = absurd (none-some rs g)
    go (Some o) d (Some xs) f g k =
        let w : thread_entry t o ∷ xs ≡ rs = same_Some (thread_entry t o ∷ xs) rs g in
        let i : InPathOrder (thread_entry t o ∷ xs) = subst InPathOrder (sym w) s in
        let rises = threads_before t.state.path ts xs f i.0 in
        let first : IsLogOf t m = first_log t ts m ms rises r.0 each only in
        let tail = k xs f i.1 r.1
        (λ u h. fits_rest (λ (x : Thread). x.state.path) (λ (l : Log). l.path) IsLogOf (λ x l is. is.path) t.state.path m ms first.path u (of_each (λ (x : Thread). Precedes t.state.path x.state.path) ts u rises h) (each u (more t ts u h)))
        (λ l h. fits_rest (λ (x : Log). x.path) (λ (x : Thread). x.state.path) (λ x u. IsLogOf u x) (λ x u is. sym is.path) m.path t ts (sym first.path) l (of_each (λ (x : Log). Precedes m.path x.path) ms l r.0 h) (only l (more m ms l h))) in
        ap (λ x. both x (entries_of ms)) (log_entry t m o first d) ∙ (ap (both (Some (thread_entry t o))) tail ∙ ap Some w)

-- a finished configuration has records
pub finished_records : (c : List Thread) → IsFinished c → (rs : List Entry) × (records_of c ≡ Some rs)
finished_records [] f = ([], refl)
finished_records (t ∷ ts) f = let h = finished_records ts f.1 in (thread_entry t f.0.0 ∷ h.0, ap (λ o. entry_then o t (records_of ts)) f.0.1 ∙ ap (entry_then (Some f.0.0) t) h.1)

-- the records of logs have their work
pub entries_work : (ls : List Log) (rs : List Entry) → entries_of ls ≡ Some rs → work_of_records rs ≡ work ls
entries_work [] rs e = sym (ap work_of_records (same_Some [] rs e))
entries_work (l ∷ ls) rs e = go l.outcome (entries_of ls) e (entries_work ls)
  where
    go : (o : Option Outcome) (qs : Option (List Entry)) → both (option_map (entry_with l) o) qs ≡ Some rs → ((xs : List Entry) → qs ≡ Some xs → work_of_records xs ≡ work ls) → work_of_records rs ≡ length l.events + work ls
    go None qs f k = absurd (none-some rs f)
    go (Some o) None f k = absurd (none-some rs f)
    go (Some o) (Some xs) f k = sym (ap work_of_records (same_Some (entry_with l o ∷ xs) rs f)) ∙ ap (λ n. length l.events + n) (k xs refl)

work_sum : (ls : List Log) → work ls ≡ sum_by (λ (l : Log). length l.events) ls
work_sum [] = refl
work_sum (l ∷ ls) = ap (λ n. length l.events + n) (work_sum ls) ∙ sym (sum_by-cons (λ (x : Log). length x.events) l ls)

-- whatever the order
pub same_work : (xs ys : List Log) → IsPermutation xs ys → work xs ≡ work ys
same_work xs ys s = work_sum xs ∙ (sym (sum_by-IsPermutation (λ (l : Log). length l.events) xs ys s) ∙ sym (work_sum ys))
