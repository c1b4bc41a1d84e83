-- Logs and the tasks that wait for their threads, as one list.
use Rattle.std.proofs.Common.{◌≡◌, ℕ, zero, suc, ◌<◌, List, [], ◌∷◌, ◌++◌, length, map, take, set, get_or, ◌+◌, ◌≤◌, sym, refl, ap, ◌∙◌, arith, true, false, true≢false, Option, Some, None, is_some}
use mathlib.Core.Option.{some, some-injective, some-ne-none}
use lib.ListN.{get_elem?}
use Rattle.atomic_table.proofs.Lists.{at_index}
use Rattle.std.specs.Ordering.{ordering_index}
use Rattle.std.specs.Prelude.{◌==◌}
use Rattle.std.specs.declared.cmp.Ordering.{Ordering}
use Rattle.std.specs.declared.cmp.Ordering.TheVariants.{Less, Equal, Greater}
use Rattle.std.specs.declared.vec.Vec.{Vec}
use Rattle.std.specs.declared.alloc.Global.{Global}
use Rattle.priml_syntax.specs.declared.value.Outcome.{Outcome}
use Rattle.trace_book.specs.Log.{Log}
use Rattle.task_state.specs.declared.task.Task.{Task}
use Rattle.join_board.specs.Entries.{Entry, paired}
use Rattle.join_board.specs.Logs.{kept, handed_out, sum_of}

abbrev pub Waiting : Type 0
Waiting = Vec Task Global

abbrev pub pair : Log → Waiting → Entry
pair l w = record { log = l; waiting = w.items }

pub paired_length : (ls : List Log) (ws : List Waiting) → length ls ≡ length ws → length (paired ls ws) ≡ length ls
paired_length [] ws e = refl
paired_length (l ∷ ls) [] e = absurd (omega (arith, e))
paired_length (l ∷ ls) (w ∷ ws) e = let h = paired_length ls ws (omega (arith, e)) in omega (arith, h)

pub log_paired : (ls : List Log) (ws : List Waiting) (i : ℕ) (e : Entry) → get_elem? (paired ls ws) i ≡ some e → get_elem? ls i ≡ some e.log
log_paired [] ws i e at = absurd (some-ne-none e (sym at))
log_paired (l ∷ ls) [] i e at = absurd (some-ne-none e (sym at))
log_paired (l ∷ ls) (w ∷ ws) zero e at = ap (λ (x : Entry). some x.log) (some-injective (pair l w) e at)
log_paired (l ∷ ls) (w ∷ ws) (suc i) e at = log_paired ls ws i e at

-- a place of the pairs is one of the logs, and has the log of its pair
pub in_logs : (ls : List Log) (ws : List Waiting) (x : List Entry) (i : ℕ) → length ls ≡ length ws → paired ls ws ≡ x → i < length x → i < length ls
in_logs ls ws x i even view l = let h = paired_length ls ws even in let v = ap length view in omega (arith, h, v, l)

pub log_there : (ls : List Log) (ws : List Waiting) (x : List Entry) (i : ℕ) (a : Log) (e : Entry) → length ls ≡ length ws → paired ls ws ≡ x → i < length x → a ≡ get_or ls i a → get_elem? x i ≡ some e → a ≡ e.log
log_there ls ws x i a e even view l is at =
    some-injective a e.log (sym (at_index ls i a (in_logs ls ws x i even view l) is) ∙ log_paired ls ws i e (ap (λ (y : List Entry). get_elem? y i) view ∙ at))

pub waiting_paired : (ls : List Log) (ws : List Waiting) (i : ℕ) (e : Entry) (w : Waiting) → get_elem? (paired ls ws) i ≡ some e → get_elem? ws i ≡ some w → w.items ≡ e.waiting
waiting_paired [] ws i e w at there = absurd (some-ne-none e (sym at))
waiting_paired (l ∷ ls) [] i e w at there = absurd (some-ne-none e (sym at))
waiting_paired (l ∷ ls) (u ∷ ws) zero e w at there = ap (λ (x : Waiting). x.items) (sym (some-injective u w there)) ∙ ap (λ (x : Entry). x.waiting) (some-injective (pair l u) e at)
waiting_paired (l ∷ ls) (u ∷ ws) (suc i) e w at there = waiting_paired ls ws i e w at there

pub at_paired : (ls : List Log) (ws : List Waiting) (i : ℕ) (l : Log) (w : Waiting) → get_elem? ls i ≡ some l → get_elem? ws i ≡ some w → get_elem? (paired ls ws) i ≡ some (pair l w)
at_paired [] ws i l w at there = absurd (some-ne-none l (sym at))
at_paired (x ∷ ls) [] i l w at there = absurd (some-ne-none w (sym there))
at_paired (x ∷ ls) (u ∷ ws) zero l w at there = λ k. some (pair (some-injective x l at k) (some-injective u w there k))
at_paired (x ∷ ls) (u ∷ ws) (suc i) l w at there = at_paired ls ws i l w at there

pub some_at : {A : Type 0} (xs : List A) (i : ℕ) → i < length xs → (x : A) × (get_elem? xs i ≡ some x)
some_at [] i l = absurd (omega (arith, l))
some_at (x ∷ xs) zero l = (x, refl)
some_at (x ∷ xs) (suc i) l = some_at xs i (omega (arith, l))

pub set_same : {A : Type 0} (xs : List A) (i : ℕ) (x : A) → get_elem? xs i ≡ some x → set xs i x ≡ xs
set_same [] i x e = refl
set_same (y ∷ ys) zero x e = ap (λ z. z ∷ ys) (sym (some-injective y x e))
set_same (y ∷ ys) (suc i) x e = ap (λ zs. y ∷ zs) (set_same ys i x e)

pub sum_next : (xs : List ℕ) (i : ℕ) → i < length xs → sum_of (take (i + 1) xs) ≡ sum_of (take i xs) + get_or xs i 0
sum_next [] i l = absurd (omega (arith, l))
sum_next (x ∷ xs) zero l = omega arith
sum_next (x ∷ xs) (suc i) l = let h = sum_next xs i (omega (arith, l)) in let e : suc i + 1 ≡ suc (i + 1) = omega arith in let more : sum_of (take (suc (i + 1)) (x ∷ xs)) ≡ sum_of (take (suc i) (x ∷ xs)) + get_or (x ∷ xs) (suc i) 0 = omega (arith, h) in
    ap (λ (k : ℕ). sum_of (take k (x ∷ xs))) e ∙ more

pub sum_all : (xs : List ℕ) (i : ℕ) → length xs ≤ i → sum_of (take i xs) ≡ sum_of xs
sum_all [] zero l = refl
sum_all [] (suc i) l = refl
sum_all (x ∷ xs) zero l = absurd (omega (arith, l))
sum_all (x ∷ xs) (suc i) l = let h = sum_all xs i (omega (arith, l)) in omega (arith, h)

pub kept_some : (o : Option Outcome) (ts : List Task) → is_some o ≡ true → kept o ts ≡ []
kept_some None ts e = absurd (true≢false (sym e))
kept_some (Some o) ts e = refl

pub kept_none : (o : Option Outcome) (ts : List Task) → is_some o ≡ false → kept o ts ≡ ts
kept_none None ts e = refl
kept_none (Some o) ts e = absurd (true≢false e)

pub out_some : (o : Option Outcome) (ts : List Task) → is_some o ≡ true → handed_out o ts ≡ ts
out_some None ts e = absurd (true≢false (sym e))
out_some (Some o) ts e = refl

pub out_none : (o : Option Outcome) (ts : List Task) → is_some o ≡ false → handed_out o ts ≡ []
out_none None ts e = refl
out_none (Some o) ts e = absurd (true≢false e)

-- with another log, and the same tasks
pub paired_log : (ls : List Log) (ws : List Waiting) (i : ℕ) (l : Log) (w : Waiting) → get_elem? ws i ≡ some w → paired (set ls i l) ws ≡ set (paired ls ws) i (pair l w)
paired_log [] ws i l w there = refl
paired_log (x ∷ ls) [] zero l w there = refl
paired_log (x ∷ ls) [] (suc i) l w there = refl
paired_log (x ∷ ls) (u ∷ ws) zero l w there = ap (λ (y : Waiting). pair l y ∷ paired ls ws) (some-injective u w there)
paired_log (x ∷ ls) (u ∷ ws) (suc i) l w there = ap (λ es. pair x u ∷ es) (paired_log ls ws i l w there)

-- with other tasks, and the same log
pub paired_tasks : (ls : List Log) (ws : List Waiting) (i : ℕ) (l : Log) (w : Waiting) → get_elem? ls i ≡ some l → paired ls (set ws i w) ≡ set (paired ls ws) i (pair l w)
paired_tasks [] ws i l w at = refl
paired_tasks (x ∷ ls) [] zero l w at = refl
paired_tasks (x ∷ ls) [] (suc i) l w at = refl
paired_tasks (x ∷ ls) (u ∷ ws) zero l w at = ap (λ (y : Log). pair y w ∷ paired ls ws) (some-injective x l at)
paired_tasks (x ∷ ls) (u ∷ ws) (suc i) l w at = ap (λ es. pair x u ∷ es) (paired_tasks ls ws i l w at)

-- with both
pub paired_both : (ls : List Log) (ws : List Waiting) (i : ℕ) (l : Log) (w : Waiting) → paired (set ls i l) (set ws i w) ≡ set (paired ls ws) i (pair l w)
paired_both [] ws i l w = refl
paired_both (x ∷ ls) [] zero l w = refl
paired_both (x ∷ ls) [] (suc i) l w = refl
paired_both (x ∷ ls) (u ∷ ws) zero l w = refl
paired_both (x ∷ ls) (u ∷ ws) (suc i) l w = ap (λ es. pair x u ∷ es) (paired_both ls ws i l w)

pub paired_snoc : (ls : List Log) (ws : List Waiting) (l : Log) (w : Waiting) → length ls ≡ length ws → paired (ls ++ l ∷ []) (ws ++ w ∷ []) ≡ paired ls ws ++ pair l w ∷ []
paired_snoc [] [] l w e = refl
paired_snoc [] (u ∷ ws) l w e = absurd (omega (arith, e))
paired_snoc (x ∷ ls) [] l w e = absurd (omega (arith, e))
paired_snoc (x ∷ ls) (u ∷ ws) l w e = ap (λ es. pair x u ∷ es) (paired_snoc ls ws l w (omega (arith, e)))

pub paired_logs : (ls : List Log) (ws : List Waiting) → length ls ≡ length ws → map (λ (e : Entry). e.log) (paired ls ws) ≡ ls
paired_logs [] ws e = refl
paired_logs (l ∷ ls) [] e = absurd (omega (arith, e))
paired_logs (l ∷ ls) (w ∷ ws) e = ap (λ xs. l ∷ xs) (paired_logs ls ws (omega (arith, e)))

pub equal_of : (o : Ordering) → (ordering_index o == 1) ≡ true → o ≡ Equal
equal_of Equal e = refl
equal_of Less e = absurd (true≢false (sym e))
equal_of Greater e = absurd (true≢false (sym e))

pub not_equal : (o : Ordering) → (ordering_index o == 1) ≡ false → o ≡ Equal → ⊥
not_equal o e same = true≢false (sym (ap (λ (x : Ordering). ordering_index x == 1) same) ∙ e)
