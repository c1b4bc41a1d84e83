-- Ranges of numbers, and what passes a test.
use Rattle.std.proofs.Common.{◌≡◌, ℕ, zero, suc, ◌+◌, ◌<◌, ◌≤◌, Bool, true, false, cond, List, [], ◌∷◌, ◌++◌, ap, ◌∙◌, subst, inl, inr, arith, add-one}
use Rattle.std.specs.Prelude.{nat_eq}
use Rattle.std.specs.List.{Contains, IsDistinct, AllByRecursion, filter, range_with_len}
use Rattle.std.proofs.lemmas.Bool.{cases_Bool, cases_eq, both_ways, cond_both, cond-true, cond-false, ne_eqb}
use Rattle.std.proofs.lemmas.List.Elements.{All-contains, filter_passes, filter-append}
use Rattle.cost_graph.proofs.Members.{no_member, member_cons, member_head, member_tail}

pub range_push : (a n : ℕ) → range_with_len a (suc n) ≡ range_with_len a n ++ (a + n) ∷ []
range_push a zero = let e : a ≡ a + 0 = omega arith in ap (λ x. x ∷ []) e
range_push a (suc n) = let e : (a + 1) + n ≡ a + suc n = omega arith in ap (λ l. a ∷ l) (range_push (a + 1) n ∙ ap (λ x. range_with_len (a + 1) n ++ x ∷ []) e)

pub filter_range_more : (p : ℕ → Bool) (n : ℕ) → filter p (range_with_len 0 (n + 1)) ≡ filter p (range_with_len 0 n) ++ cond (p n) (n ∷ []) []
filter_range_more p n =
    let e : 0 + n ≡ n = omega arith in
    rw add-one (ap (filter p) (range_push 0 n ∙ ap (λ x. range_with_len 0 n ++ x ∷ []) e) ∙ filter-append p (range_with_len 0 n) (n ∷ []))

pub in_range : (a n v : ℕ) → a ≤ v → v < a + n → Contains (range_with_len a n) v
in_range a zero v low high = absurd (omega (arith, low, high))
in_range a (suc n) v low high =
    elim (cases_eq a v) [
      | inl e ↦ subst (Contains (range_with_len a (suc n))) e (member_head a (range_with_len (a + 1) n))
      | inr ne ↦ member_tail a (range_with_len (a + 1) n) v (in_range (a + 1) n v (omega (arith, low, ne)) (omega (arith, high)))
    ]

pub in_filter : (p : ℕ → Bool) (xs : List ℕ) (v : ℕ) → Contains xs v → p v ≡ true → Contains (filter p xs) v
in_filter p [] v c h = absurd (no_member v c)
in_filter p (x ∷ xs) v c h =
    elim (member_cons x xs v c) [
      | inl e ↦ cond_both (p x) (x ∷ filter p xs) (filter p xs) (λ l. Contains l v) (λ _. subst (Contains (x ∷ filter p xs)) e (member_head x (filter p xs))) (λ n. absurd (both_ways (p x) n (ap p e ∙ h)))
      | inr late ↦ cond_both (p x) (x ∷ filter p xs) (filter p xs) (λ l. Contains l v) (λ _. member_tail x (filter p xs) v (in_filter p xs v late h)) (λ _. in_filter p xs v late h)
    ]

pub from_filter : (p : ℕ → Bool) (xs : List ℕ) (v : ℕ) → Contains (filter p xs) v → p v ≡ true
from_filter p xs v c = All-contains (λ x. p x ≡ true) (filter p xs) v (filter_passes p xs) c

pub out_filter : (p : ℕ → Bool) (xs : List ℕ) (v : ℕ) → Contains (filter p xs) v → Contains xs v
out_filter p [] v c = c
out_filter p (x ∷ xs) v c =
    elim (cases_Bool (p x)) [
      | inl y ↦ elim (member_cons x (filter p xs) v (subst (λ l. Contains l v) (cond-true (p x) (x ∷ filter p xs) (filter p xs) y) c)) [
        | inl e ↦ subst (Contains (x ∷ xs)) e (member_head x xs)
        | inr late ↦ member_tail x xs v (out_filter p xs v late)
      ]
      | inr n ↦ member_tail x xs v (out_filter p xs v (subst (λ l. Contains l v) (cond-false (p x) (x ∷ filter p xs) (filter p xs) n) c))
    ]

pub distinct_range : (a n : ℕ) → IsDistinct nat_eq (range_with_len a n)
unfolding IsDistinct
distinct_range a zero = tt
distinct_range a (suc n) = (apart (a + 1) n (omega arith), distinct_range (a + 1) n)
  where
    apart : (b m : ℕ) → a < b → AllByRecursion (λ y. nat_eq a y ≡ false) (range_with_len b m)
    apart b zero lt = tt
    apart b (suc m) lt = (ne_eqb a b (λ e. omega (arith, lt, e)), apart (b + 1) m (omega (arith, lt)))
