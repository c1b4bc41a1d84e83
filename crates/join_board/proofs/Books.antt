-- The logs of all shards are of different threads.
use Rattle.std.proofs.Common.{◌≡◌, ◌≢◌, ℕ, zero, suc, ◌+◌, ◌≤◌, List, [], ◌∷◌, ◌++◌, map, sym, refl, ap, ◌∙◌, ⊎_elim, arith, append_assoc, append-nil}
use mathlib.Core.Logic.{dite}
use mathlib.Core.Option.{some, some-injective, some-ne-none}
use native.Mathlib.Decide.{dec_lt}
use lib.ListN.{get_elem?}
use Rattle.std.specs.List.{AllByRecursion, flat_map}
use Rattle.std.proofs.lemmas.List.{get_or_past}
use Rattle.core_steps.specs.Config.{Thread}
use Rattle.trace_book.specs.Book.{NoPathTwice}
use Rattle.trace_book.specs.Log.{Log}
use Rattle.join_board.specs.Entries.{Entry}
use Rattle.join_board.specs.declared.view.About.{About}
use Rattle.join_board.specs.Logs.{shard_at, shard_of}
use Rattle.join_board.specs.Rule.{KeepsLogs}
use Rattle.join_board.specs.Close.{logs_in}
use Rattle.task_state.proofs.Sums.{at_append}

pub flat_snoc : {A B : Type 0} (f : A → List B) (xs : List A) (x : A) → flat_map f (xs ++ x ∷ []) ≡ flat_map f xs ++ f x
flat_snoc f [] x = append-nil (f x)
flat_snoc f (y ∷ ys) x = ap (λ zs. f y ++ zs) (flat_snoc f ys x) ∙ sym (append_assoc (f y) (flat_map f ys) (f x))

pub all_of : {A : Type 0} (P : A → Type 0) (xs : List A) → ((i : ℕ) (a : A) → get_elem? xs i ≡ some a → P a) → AllByRecursion P xs
all_of P [] h = tt
all_of P (x ∷ xs) h = (h 0 x refl, all_of P xs (λ i a e. h (suc i) a e))

all_append : (P : Log → Type 0) (xs ys : List Log) → AllByRecursion P xs → AllByRecursion P ys → AllByRecursion P (xs ++ ys)
all_append P [] ys a b = b
all_append P (x ∷ xs) ys a b = (a.0, all_append P xs ys a.1 b)

-- no path stands at two places
no_twice : (xs : List Log) → ((i j : ℕ) (l m : Log) → get_elem? xs i ≡ some l → get_elem? xs j ≡ some m → l.path ≡ m.path → i ≡ j) → NoPathTwice xs
no_twice [] h = tt
no_twice (x ∷ xs) h = (
  all_of (λ m. x.path ≢ m.path) xs (λ j m e q. let z : 0 ≡ suc j = h 0 (suc j) x m refl e q in omega (arith, z)),
  no_twice xs (λ i j l m a b q. let z : suc i ≡ suc j = h (suc i) (suc j) l m a b q in omega (arith, z)),
)

both_apart : (xs ys : List Log) → NoPathTwice xs → NoPathTwice ys → ((i j : ℕ) (l m : Log) → get_elem? xs i ≡ some l → get_elem? ys j ≡ some m → l.path ≢ m.path) → NoPathTwice (xs ++ ys)
both_apart [] ys a b h = b
both_apart (x ∷ xs) ys a b h = (all_append (λ m. x.path ≢ m.path) xs ys a.0 (all_of (λ m. x.path ≢ m.path) ys (λ j m e. h 0 j x m refl e)), both_apart xs ys a.1 b (λ i j l m p q. h (suc i) j l m p q))

-- an entry of each log
pub entry_of : (x : List Entry) (i : ℕ) (l : Log) → get_elem? (map (λ (e : Entry). e.log) x) i ≡ some l → (e : Entry) × (get_elem? x i ≡ some e) × (e.log ≡ l)
entry_of [] i l e = absurd (some-ne-none l (sym e))
entry_of (y ∷ ys) zero l e = (y, refl, some-injective y.log l e)
entry_of (y ∷ ys) (suc i) l e = entry_of ys i l e

-- the threads of the shards from the k-th on stand in their shards, each once
abbrev Sorted : ℕ → List (List Entry) → Type 0
Sorted k shards = (j i : ℕ) (e : Entry) → get_elem? (shard_at shards j) i ≡ some e → (shard_of e.log.path ≡ k + j) × ((m : ℕ) (f : Entry) → get_elem? (shard_at shards j) m ≡ some f → f.log.path ≡ e.log.path → m ≡ i)

later : (k : ℕ) (x : List Entry) (xs : List (List Entry)) → Sorted k (x ∷ xs) → Sorted (k + 1) xs
later k x xs s j i e at = let h = s (suc j) i e at in (let a = h.0 in omega (arith, a), h.1)

high : (k : ℕ) (shards : List (List Entry)) → Sorted k shards → (i : ℕ) (l : Log) → get_elem? (logs_in shards) i ≡ some l → k ≤ shard_of l.path
high k [] s i l e = absurd (some-ne-none l (sym e))
high k (x ∷ xs) s i l e = ⊎_elim
    (λ (h : get_elem? (map (λ (e : Entry). e.log) x) i ≡ some l). let t = entry_of x i l h in let a = (s 0 i t.0 t.1).0 in let b = ap (λ (m : Log). shard_of m.path) t.2 in omega (arith, a, b))
    (λ (h : (j : ℕ) × (get_elem? (logs_in xs) j ≡ some l)). let a = high (k + 1) xs (later k x xs s) h.0 l h.1 in omega (arith, a))
    (at_append (map (λ (e : Entry). e.log) x) (logs_in xs) i l e)

sorted_apart : (k : ℕ) (shards : List (List Entry)) → Sorted k shards → NoPathTwice (logs_in shards)
sorted_apart k [] s = tt
sorted_apart k (x ∷ xs) s = both_apart (map (λ (e : Entry). e.log) x) (logs_in xs)
    (no_twice (map (λ (e : Entry). e.log) x) (λ i j l m a b q. let t = entry_of x i l a in let u = entry_of x j m b in
    (s 0 j u.0 u.1).1 i t.0 t.1 (ap (λ (z : Log). z.path) t.2 ∙ (q ∙ ap (λ (z : Log). z.path) (sym u.2)))))
    (sorted_apart (k + 1) xs (later k x xs s))
    (λ i j l m a b q. let t = entry_of x i l a in let low = (s 0 i t.0 t.1).0 in let is = ap (λ (z : Log). shard_of z.path) t.2 in let up = high (k + 1) xs (later k x xs s) j m b in let same = ap shard_of q in omega (arith, low, is, up, same))

pub logs_apart : (key : About) (shards : List (List Entry)) (c : List Thread) → KeepsLogs key shards c → NoPathTwice (logs_in shards)
logs_apart key shards c r = sorted_apart 0 shards (λ j i e at. dite (dec_lt j 64)
    (λ l. let h = r.placed j l i e at in (let a = h.0 in omega (arith, a), h.2))
    (λ n. absurd (some-ne-none e (sym (ap (λ (x : List Entry). get_elem? x i) (sym (get_or_past shards j [] (let d = r.deep in omega (arith, d, n)))) ∙ at)))))
