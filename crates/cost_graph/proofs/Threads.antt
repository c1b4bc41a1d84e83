-- Lemmas on the threads of a graph and their vertices.
use Rattle.std.proofs.Common.{◌≡◌, ◌≢◌, ℕ, zero, suc, ◌+◌, ◌-◌, ◌<◌, ◌≤◌, List, [], ◌∷◌, length, take, get_or, replicate, map, refl, sym, ap, ◌∙◌, subst, inl, inr, arith}
use Rattle.std.specs.Prelude.{Result, Ok, Err, IfOk, IfErr}
use Rattle.std.specs.List.{sum_by, flat_map, AllByRecursion, Contains, HoldsAt}
use Rattle.std.specs.List.Sorted.{IsBinarySearchResult, IsSearchInRange}
use Rattle.std.specs.Ordering.{nat_cmp}
use Rattle.std.specs.Cmp.Lexicographic.{slice_cmp}
use Rattle.std.proofs.lemmas.Bool.{cases_lt}
use Rattle.std.proofs.lemmas.List.{get_or_default, get_or-replicate, length-append, length-replicate}
use Rattle.std.proofs.lemmas.List.Concat.{get_or-flat_map}
use Rattle.std.proofs.lemmas.List.Sums.{sum_by-cons}
use Rattle.priml_syntax.specs.Paths.{Precedes}
use Rattle.priml_syntax.specs.Values.{Entry, faulted}
use Rattle.priml_syntax.specs.declared.value.FaultKind.TheVariants.{Zero}
use Rattle.priml_syntax.specs.Records.{Each, InPathOrder}
use Rattle.priml_syntax.proofs.Orders.{irreflexive, search_found, search_absent}
use Rattle.cost_graph.specs.declared.graph.Thread.{Thread}
use Rattle.cost_graph.specs.Graph.{CostGraph, no_thread, thread_at, thread_total, vertex_total, first_vertex, vertex_priority, IsOwner, IsGraph, AreInOrder}

-- ---- a search for a path

-- the thread as a record without events
abbrev entry_of : Thread → Entry
entry_of t = record { path = t.path; prio = 0; events = []; outcome = faulted Zero }

each_entry : (p : List ℕ) (ts : List Thread) → AllByRecursion (λ (x : Thread). Precedes p x.path) ts → Each (λ x. Precedes p x.path) (map entry_of ts)
each_entry p [] h = tt
each_entry p (t ∷ ts) h = (h.0, each_entry p ts h.1)

entries_in_order : (ts : List Thread) → AreInOrder ts → InPathOrder (map entry_of ts)
entries_in_order [] h = tt
entries_in_order (t ∷ ts) h = (each_entry t.path ts h.0, entries_in_order ts h.1)

pub thread_found : (ts : List Thread) (p : List ℕ) (r : Result ℕ ℕ) → IsSearchInRange r (length ts) → IsBinarySearchResult (λ (y : Thread). slice_cmp nat_cmp y.path p) ts r
    → IfOk r (λ t. (t < length ts) × ((get_or ts t no_thread).path ≡ p))
thread_found ts p r bound found = go r (search_found entry_of ts p r bound found)
  where
    go : (r : Result ℕ ℕ) → IfOk r (λ i. (i < length ts) × HoldsAt (λ y. (entry_of y).path ≡ p) ts i) → IfOk r (λ t. (t < length ts) × ((get_or ts t no_thread).path ≡ p))
    go (Ok i) h = (h.0, h.1 no_thread)
    go (Err i) h = tt

pub thread_absent : (ts : List Thread) (p : List ℕ) (r : Result ℕ ℕ) → AreInOrder ts → IsBinarySearchResult (λ (y : Thread). slice_cmp nat_cmp y.path p) ts r
    → IfErr r (λ _. (t : ℕ) → t < length ts → (get_or ts t no_thread).path ≡ p → ⊥)
thread_absent ts p r order found = go r (search_absent entry_of ts p r (entries_in_order ts order) found)
  where
    go : (r : Result ℕ ℕ) → IfErr r (λ _. (x : Thread) → Contains ts x → (entry_of x).path ≢ p) → IfErr r (λ _. (t : ℕ) → t < length ts → (get_or ts t no_thread).path ≡ p → ⊥)
    go (Ok i) h = tt
    go (Err i) h = λ t lt e. h (get_or ts t no_thread) (t, lt, get_or_default ts t (get_or ts t no_thread) no_thread lt) e

-- ---- the vertices of a thread

-- a list is no longer than the sum of its positive numbers
length_most : {X : Type 0} (f : X → ℕ) (xs : List X) (d : X) → ((i : ℕ) → i < length xs → 0 < f (get_or xs i d)) → length xs ≤ sum_by f xs
length_most f [] d h = omega arith
length_most f (x ∷ xs) d h =
    let rest = length_most f xs d (λ i lt. h (suc i) (omega (arith, lt))) in
    let here : 0 < f x = h 0 (omega arith) in
    omega (arith, rest, here, sum_by-cons f x xs)

pub threads_few : (g : CostGraph) → IsGraph g → thread_total g ≤ vertex_total g
threads_few g ok = omega (arith, ok.covers, length_most (λ (x : Thread). x.vertices) g.threads no_thread ok.filled)

-- the vertices of a thread come before those of each later one
pub thread_apart : (g : CostGraph) (t s : ℕ) → t < s → s ≤ thread_total g → first_vertex g t + (thread_at g t).vertices ≤ first_vertex g s
thread_apart g = go g.threads
  where
    go : (ts : List Thread) (t s : ℕ) → t < s → s ≤ length ts → sum_by (λ (x : Thread). x.vertices) (take t ts) + (get_or ts t no_thread).vertices ≤ sum_by (λ (x : Thread). x.vertices) (take s ts)
    go [] t s lt le = absurd (omega (arith, lt, le))
    go (x ∷ ts) t zero lt le = absurd (omega (arith, lt))
    go (x ∷ ts) zero (suc s) lt le = omega (arith, sum_by-cons (λ (y : Thread). y.vertices) x (take s ts))
    go (x ∷ ts) (suc t) (suc s) lt le =
        omega (arith, go ts t s (omega (arith, lt)) (omega (arith, le)), sum_by-cons (λ (y : Thread). y.vertices) x (take t ts), sum_by-cons (λ (y : Thread). y.vertices) x (take s ts))

pub one_owner : (g : CostGraph) (v t s : ℕ) → IsOwner g v t → IsOwner g v s → t ≡ s
one_owner g v t s a b =
    elim (cases_lt t s) [
      | inl less ↦ absurd (omega (arith, a.high, b.low, thread_apart g t s less (omega (arith, b.within))))
      | inr more ↦ elim (cases_lt s t) [
        | inl less ↦ absurd (omega (arith, b.high, a.low, thread_apart g s t less (omega (arith, a.within))))
        | inr less ↦ omega (arith, more, less)
      ]
    ]

pub priorities_before : (ts : List Thread) → length (flat_map (λ (x : Thread). replicate x.vertices x.priority) ts) ≡ sum_by (λ (x : Thread). x.vertices) ts
priorities_before [] = refl
priorities_before (t ∷ ts) =
    length-append (replicate t.vertices t.priority) (flat_map (λ (x : Thread). replicate x.vertices x.priority) ts)
    ∙ ap (λ n. n + length (flat_map (λ (x : Thread). replicate x.vertices x.priority) ts)) (length-replicate t.vertices t.priority)
    ∙ ap (λ n. t.vertices + n) (priorities_before ts) ∙ sym (sum_by-cons (λ (x : Thread). x.vertices) t ts)

-- a vertex has the priority of its thread
pub owner_priority : (g : CostGraph) (v t : ℕ) → IsOwner g v t → vertex_priority g v ≡ (thread_at g t).priority
owner_priority g v t own =
    let k : ℕ = v - first_vertex g t in
    let sum : first_vertex g t + k ≡ v = omega (arith, own.low) in
    let below : k < (thread_at g t).vertices = omega (arith, own.low, own.high) in
    let short : k < length (replicate (thread_at g t).vertices (thread_at g t).priority) = omega (arith, below, length-replicate (thread_at g t).vertices (thread_at g t).priority) in
    let at = get_or-flat_map (λ (x : Thread). replicate x.vertices x.priority) g.threads t k no_thread 0 own.within short in
    let place : length (flat_map (λ (x : Thread). replicate x.vertices x.priority) (take t g.threads)) + k ≡ v = ap (λ n. n + k) (priorities_before (take t g.threads)) ∙ sum in
    ap (λ n. get_or (flat_map (λ (x : Thread). replicate x.vertices x.priority) g.threads) n 0) (sym place) ∙ at ∙ get_or-replicate (thread_at g t).vertices k (thread_at g t).priority 0 below

-- two threads with one path are one
later_thread : (ts : List Thread) (p : List ℕ) (i : ℕ) (d : Thread) → AllByRecursion (λ (x : Thread). Precedes p x.path) ts → i < length ts → Precedes p (get_or ts i d).path
later_thread [] p i d h lt = absurd (omega (arith, lt))
later_thread (t ∷ ts) p zero d h lt = h.0
later_thread (t ∷ ts) p (suc i) d h lt = later_thread ts p i d h.1 (omega (arith, lt))

pub threads_rise : (ts : List Thread) (i j : ℕ) (d : Thread) → AreInOrder ts → i < j → j < length ts → Precedes (get_or ts i d).path (get_or ts j d).path
threads_rise [] i j d h lt le = absurd (omega (arith, le))
threads_rise (t ∷ ts) i zero d h lt le = absurd (omega (arith, lt))
threads_rise (t ∷ ts) zero (suc j) d h lt le = later_thread ts t.path j d h.0 (omega (arith, le))
threads_rise (t ∷ ts) (suc i) (suc j) d h lt le = threads_rise ts i j d h.1 (omega (arith, lt)) (omega (arith, le))

pub one_path : (g : CostGraph) (t s : ℕ) → IsGraph g → t < thread_total g → s < thread_total g → (thread_at g t).path ≡ (thread_at g s).path → t ≡ s
one_path g t s ok a b e =
    elim (cases_lt t s) [
      | inl less ↦ absurd (irreflexive (thread_at g s).path (subst (λ p. Precedes p (thread_at g s).path) e (threads_rise g.threads t s no_thread ok.in_order less b)))
      | inr more ↦ elim (cases_lt s t) [
        | inl less ↦ absurd (irreflexive (thread_at g s).path (subst (Precedes (thread_at g s).path) e (threads_rise g.threads s t no_thread ok.in_order less a)))
        | inr less ↦ omega (arith, more, less)
      ]
    ]
