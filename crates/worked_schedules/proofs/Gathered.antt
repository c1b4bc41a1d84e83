-- A graph that a test makes: a root of two vertices, and children of one between the two.
use Rattle.std.proofs.Common.{◌≡◌, ℕ, zero, suc, ◌+◌, ◌<◌, ◌^◌, List, [], ◌∷◌, map, get_or, replicate, add-one, refl, ap, inl, inr, arith}
use Rattle.std.specs.List.{Contains, AllByRecursion, sum_by, range_with_len}
use Rattle.std.specs.List.Sorted.{IsStrictlyIncreasing}
use Rattle.std.proofs.lemmas.List.{length-replicate}
use Rattle.std.proofs.lemmas.List.Sums.{sum_by-cons}
use Rattle.std.proofs.lemmas.List.FromFn.{length-range_with_len, get_or-range_with_len, length-map-range_with_len, get_or-map-range_with_len}
use Rattle.priml_syntax.specs.Paths.{Precedes}
use Rattle.cost_graph.specs.declared.graph.Thread.{Thread}
use Rattle.cost_graph.specs.Graph.{CostGraph, vertex_total, thread_total, thread_at, no_thread, parents_at, first_vertex, Edge, AreInOrder, IsGraph}
use Rattle.cost_graph.proofs.Members.{no_member, member_cons, member_head}

abbrev pub root : Thread
root = record { path = 0 ∷ []; priority = 0; vertices = 2 }

abbrev pub child : ℕ → Thread
child k = record { path = 0 ∷ k ∷ []; priority = 0; vertices = 1 }

abbrev pub gathered : ℕ → CostGraph
gathered n = record { threads = root ∷ map child (range_with_len 0 n); parents = [] ∷ (0 ∷ range_with_len 2 n) ∷ replicate n (0 ∷ []) }

sum_ones : (a n : ℕ) → sum_by (λ (x : Thread). x.vertices) (map child (range_with_len a n)) ≡ n
sum_ones a zero = refl
sum_ones a (suc n) = omega (arith, sum_by-cons (λ (x : Thread). x.vertices) (child a) (map child (range_with_len (a + 1) n)), sum_ones (a + 1) n)

one : (n t : ℕ) → t < n → (get_or (map child (range_with_len 0 n)) t no_thread).vertices ≡ 1
one n t lt = ap (λ (x : Thread). x.vertices) (get_or-map-range_with_len child 0 n t t no_thread lt (omega arith))

after_root : (a n : ℕ) → AllByRecursion (λ (x : Thread). Precedes (0 ∷ []) x.path) (map child (range_with_len a n))
after_root a zero = tt
after_root a (suc n) = (inr (refl, tt), after_root (a + 1) n)

after_child : (k a n : ℕ) → k < a → AllByRecursion (λ (x : Thread). Precedes (0 ∷ k ∷ []) x.path) (map child (range_with_len a n))
after_child k a zero lt = tt
after_child k a (suc n) lt = (inr (refl, inl lt), after_child k (a + 1) n (omega (arith, lt)))

children_rise : (a n : ℕ) → AreInOrder (map child (range_with_len a n))
children_rise a zero = tt
children_rise a (suc n) = (after_child a (a + 1) n (omega arith), children_rise (a + 1) n)

in_range : (a n u : ℕ) → Contains (range_with_len a n) u → u < a + n
in_range a zero u c = absurd (no_member u c)
in_range a (suc n) u c = elim (member_cons a (range_with_len (a + 1) n) u c) [ inl e ↦ omega (arith, e) | inr late ↦ omega (arith, in_range (a + 1) n u late) ]

first_only : (n k u : ℕ) → Contains (get_or (replicate n (0 ∷ [])) k []) u → 0 ≡ u
first_only zero k u c = absurd (no_member u c)
first_only (suc n) zero u c = elim (member_cons 0 [] u c) [ inl e ↦ e | inr late ↦ absurd (no_member u late) ]
first_only (suc n) (suc k) u c = first_only n k u c

ends : (n u v : ℕ) → Edge (gathered n) u v → u < n + 2
ends n u zero c = absurd (no_member u c)
ends n u (suc zero) c = elim (member_cons 0 (range_with_len 2 n) u c) [ inl e ↦ omega (arith, e) | inr late ↦ omega (arith, in_range 2 n u late) ]
ends n u (suc (suc k)) c = omega (arith, first_only n k u c)

second_rises : (n : ℕ) → IsStrictlyIncreasing (0 ∷ range_with_len 2 n)
second_rises n zero lt =
    let some : 0 < n = omega (arith, lt, length-range_with_len 2 n) in
    omega (arith, get_or-range_with_len 2 n 0 0 some)
second_rises n (suc k) lt =
    let here : k < n = omega (arith, lt, length-range_with_len 2 n) in
    let next : suc k < n = omega (arith, lt, length-range_with_len 2 n) in
    rw add-one (omega (arith, get_or-range_with_len 2 n k 0 here, get_or-range_with_len 2 n (suc k) 0 next))

first_rises : (n k : ℕ) → IsStrictlyIncreasing (get_or (replicate n (0 ∷ [])) k [])
first_rises zero k j lt = absurd (omega (arith, lt))
first_rises (suc n) zero j lt = absurd (omega (arith, lt))
first_rises (suc n) (suc k) j lt = first_rises n k j lt

rising : (n v : ℕ) → IsStrictlyIncreasing (parents_at (gathered n) v)
rising n zero k lt = absurd (omega (arith, lt))
rising n (suc zero) k lt = second_rises n k lt
rising n (suc (suc v)) k lt = first_rises n v k lt

goes_on : (n t k : ℕ) → t < n + 1 → k + 1 < (thread_at (gathered n) t).vertices → Edge (gathered n) (first_vertex (gathered n) t + k) (first_vertex (gathered n) t + k + 1)
goes_on n zero zero lt below = member_head 0 (range_with_len 2 n)
goes_on n zero (suc k) lt below = absurd (omega (arith, below))
goes_on n (suc t) k lt below = absurd (omega (arith, below, one n t (omega (arith, lt))))

pub gathered_is_graph : (n : ℕ) → n + 2 < 2 ^ 32 → IsGraph (gathered n)
gathered_is_graph n small = record {
  covers = omega (arith, sum_by-cons (λ (x : Thread). x.vertices) root (map child (range_with_len 0 n)), sum_ones 0 n, long);
  small = omega (arith, long, small);
  filled = filled;
  in_order = (after_root 0 n, children_rise 0 n);
  ends = λ u v e. omega (arith, ends n u v e, long);
  rising = rising n;
  goes_on = λ t k lt below. goes_on n t k (omega (arith, lt, count)) below;
}
  where
    long : vertex_total (gathered n) ≡ n + 2
    long = omega (arith, length-replicate {A = List ℕ} n (0 ∷ []))

    count : thread_total (gathered n) ≡ n + 1
    count = omega (arith, length-map-range_with_len child 0 n)

    filled : (t : ℕ) → t < thread_total (gathered n) → 0 < (thread_at (gathered n) t).vertices
    filled zero lt = omega arith
    filled (suc t) lt = omega (arith, one n t (omega (arith, lt, count)))

pub no_graph : IsGraph (record { threads = []; parents = [] })
no_graph = record {
  covers = refl;
  small = omega arith;
  filled = λ t lt. absurd (omega (arith, lt));
  in_order = tt;
  ends = λ u v c. absurd (no_member u c);
  rising = λ v k lt. absurd (omega (arith, lt));
  goes_on = λ t k lt. absurd (omega (arith, lt));
}
