-- Lemmas for a visit of a vertex.
use Rattle.std.proofs.Common.{◌≡◌, ℕ, zero, suc, ◌+◌, ◌<◌, ◌≤◌, Bool, true, false, List, [], ◌∷◌, ◌++◌, length, take, get_or, set, sym, ap, ◌∙◌, subst, inl, inr, arith, append_assoc}
use Rattle.std.specs.List.{All, filter, range_with_len}
use Rattle.std.proofs.lemmas.List.Elements.{All-filter, All-get_or, All-from_get_or, All-cons, All-nil, Contains-get_or, filter_more}
use Rattle.std.proofs.lemmas.List.Sums.{list_all-from_AllPass}
use Rattle.std.proofs.lemmas.List.Folds.{list_all_at}
use Rattle.std.proofs.lemmas.List.{get_or-set_same, get_or-set_other, length-set, append-nil}
use Rattle.std.proofs.lemmas.Bool.{cases_eq, cond-true, cond-false}
use Rattle.cost_graph.specs.Graph.{CostGraph, vertex_total, parents_at, children_at, is_edge, IsGraph}
use Rattle.cost_graph.specs.Marks.{is_marked, IsSeen}
use Rattle.cost_graph.specs.Inside.Marks.{is_free}

range_below : (a n : ℕ) → All (λ v. v < a + n) (range_with_len a n)
range_below a zero = All-nil (λ v. v < a + 0)
range_below a (suc n) =
    All-cons (λ v. v < a + suc n) a (range_with_len (a + 1) n) (omega arith)
    (subst (λ b. All (λ v. v < b) (range_with_len (a + 1) n)) (omega arith) (range_below (a + 1) n))

pub numbers_below : (n : ℕ) → All (λ v. v < n) (range_with_len 0 n)
numbers_below n = let e : 0 + n ≡ n = omega arith in subst (λ b. All (λ v. v < b) (range_with_len 0 n)) e (range_below 0 n)

pub children_below : (g : CostGraph) (u k : ℕ) → k < length (children_at g u) → get_or (children_at g u) k 0 < vertex_total g
children_below g u k lt = All-get_or (λ v. v < vertex_total g) (children_at g u) k 0 lt (All-filter (is_edge g u) (λ v. v < vertex_total g) (range_with_len 0 (vertex_total g)) (numbers_below (vertex_total g)))

pub parents_below : (g : CostGraph) (v : ℕ) → IsGraph g → All (λ u. u < vertex_total g) (parents_at g v)
parents_below g v ok = All-from_get_or (λ u. u < vertex_total g) (parents_at g v) 0 (λ k lt. ok.ends (get_or (parents_at g v) k 0) v (Contains-get_or (parents_at g v) k 0 lt))

pub free_at_end : (g : CostGraph) (marks : List Bool) (v n : ℕ) → n ≡ length (parents_at g v) → ((k : ℕ) → k < n → is_marked marks (get_or (parents_at g v) k 0) ≡ true) → is_free g marks v ≡ true
free_at_end g marks v n e known = list_all-from_AllPass (is_marked marks) (parents_at g v) (All-from_get_or (λ u. is_marked marks u ≡ true) (parents_at g v) 0 (λ k lt. known k (omega (arith, lt, e))))

pub not_free_before : (g : CostGraph) (marks : List Bool) (v n : ℕ) → n < length (parents_at g v) → is_marked marks (get_or (parents_at g v) n 0) ≡ false → is_free g marks v ≡ false
not_free_before g marks v n lt stops = list_all_at (is_marked marks) (parents_at g v) n 0 lt stops

pub seen_on : (g : CostGraph) (marks : List Bool) (seen : List ℕ) (v n : ℕ) → IsSeen g marks seen → v < vertex_total g → n ≤ length (parents_at g v)
    → ((k : ℕ) → k < n → is_marked marks (get_or (parents_at g v) k 0) ≡ true) → IsSeen g marks (set seen v n)
seen_on g marks seen v n old lt le known = record {
  marks_fit = old.marks_fit;
  seen_fit = length-set seen v n ∙ old.seen_fit;
  within = λ w w_lt. elim (cases_eq w v) [
    | inl same ↦ rw same (let s_lt : v < length seen = omega (arith, old.seen_fit) in rw get_or-set_same le)
    | inr other ↦ rw get_or-set_other (old.within w w_lt)
  ];
  marked = λ w k w_lt. elim (cases_eq w v) [
    | inl same ↦ rw same (let s_lt : v < length seen = omega (arith, old.seen_fit) in rw get_or-set_same (known k))
    | inr other ↦ rw get_or-set_other (old.marked w k w_lt)
  ];
}

-- a turn adds the child exactly if it is free
pub freed_yes : (p : ℕ → Bool) (xs : List ℕ) (i : ℕ) (first now next : List ℕ) → i < length xs → now ≡ first ++ filter p (take i xs) → p (get_or xs i 0) ≡ true
    → next ≡ now ++ get_or xs i 0 ∷ [] → next ≡ first ++ filter p (take (i + 1) xs)
freed_yes p xs i first now next lt e y n =
    n ∙ ap (λ l. l ++ get_or xs i 0 ∷ []) e ∙ append_assoc first (filter p (take i xs)) (get_or xs i 0 ∷ [])
    ∙ ap (λ l. first ++ l) (ap (λ l. filter p (take i xs) ++ l) (sym (cond-true (p (get_or xs i 0)) (get_or xs i 0 ∷ []) [] y)) ∙ sym (filter_more p xs i 0 lt))

pub freed_no : (p : ℕ → Bool) (xs : List ℕ) (i : ℕ) (first now : List ℕ) → i < length xs → now ≡ first ++ filter p (take i xs) → p (get_or xs i 0) ≡ false → now ≡ first ++ filter p (take (i + 1) xs)
freed_no p xs i first now lt e n =
    e ∙ ap (λ l. first ++ l) (sym (append-nil (filter p (take i xs))) ∙ ap (λ l. filter p (take i xs) ++ l) (sym (cond-false (p (get_or xs i 0)) (get_or xs i 0 ∷ []) [] n)) ∙ sym (filter_more p xs i 0 lt))
