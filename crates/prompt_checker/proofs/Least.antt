-- The least vertex of the sets of some priorities, set by set.
use Rattle.std.proofs.Common.{◌≡◌, ℕ, ◌+◌, ◌<◌, ◌≤◌, true, false, List, length, get_or, map, min, sym, ap, ◌∙◌, subst, inl, inr, arith, ◌⊎◌}
use Rattle.std.specs.Prelude.{Option, None, Some}
use Rattle.std.specs.Ordering.{nat_cmp}
use Rattle.std.specs.BTreeSet.{BTreeSet, contains}
use Rattle.std.proofs.lemmas.Bool.{cases_lt, both_ways}
use Rattle.std.proofs.lemmas.List.{get_or-map, get_or_past, length-map}
use Rattle.prompt_checker.specs.Verdict.{IsLeast}
use Rattle.prompt_checker.specs.Inside.Watch.{IsLeastOf, lesser_of, holds, IsAbove, IsHeld}

-- the lesser of the least ones of two kinds is the least of both
pub least_join : (P Q R : ℕ → Type 0) → ((v : ℕ) → R v → P v ⊎ Q v) → ((v : ℕ) → P v → R v) → ((v : ℕ) → Q v → R v) → (a b : Option ℕ) → IsLeastOf P a → IsLeastOf Q b → IsLeastOf R (lesser_of a b)
least_join P Q R split left right None None p q = λ v r. elim (split v r) [ inl x ↦ p v x | inr y ↦ q v y ]
least_join P Q R split left right None (Some y) p q = (right y q.0, λ w lt r. elim (split w r) [ inl x ↦ p w x | inr z ↦ q.1 w lt z ])
least_join P Q R split left right (Some x) None p q = (left x p.0, λ w lt r. elim (split w r) [ inl z ↦ p.1 w lt z | inr y ↦ q w y ])
least_join P Q R split left right (Some x) (Some y) p q =
    elim (cases_lt y x) [
      | inl less ↦
          let e : y ≡ min x y = omega (arith, less) in
          let least : IsLeast R y = (right y q.0, λ w lt r. elim (split w r) [ inl z ↦ (let low : w < x = omega (arith, lt, less) in p.1 w low z) | inr z ↦ q.1 w lt z ]) in
          subst (IsLeast R) e least
      | inr more ↦
          let e : x ≡ min x y = omega (arith, more) in
          let least : IsLeast R x = (left x p.0, λ w lt r. elim (split w r) [ inl z ↦ p.1 w lt z | inr z ↦ (let low : w < y = omega (arith, lt, more) in q.1 w low z) ]) in
          subst (IsLeast R) e least
    ]

-- the set at p, as indexing gives it
pub holds_at : (sets : List (BTreeSet ℕ)) (p v : ℕ) (s : BTreeSet ℕ) → p < length sets → s ≡ get_or sets p s → holds sets p v ≡ contains nat_cmp s v
holds_at sets p v s lt e = get_or-map (λ (t : BTreeSet ℕ). contains nat_cmp t v) sets p s false lt ∙ ap (λ (t : BTreeSet ℕ). contains nat_cmp t v) (sym e)

pub holds_within : (sets : List (BTreeSet ℕ)) (p v : ℕ) → holds sets p v ≡ true → p < length sets
holds_within sets p v h =
    elim (cases_lt p (length sets)) [
      | inl lt ↦ lt
      | inr past ↦ (
          let f = λ (t : BTreeSet ℕ). contains nat_cmp t v in
          let long : length (map f sets) ≤ p = omega (arith, past, length-map sets f) in
          absurd (both_ways (holds sets p v) (get_or_past (map f sets) p false long) h))
    ]

-- v stands in a set above, before n
abbrev pub HeldBefore : List (ℕ × ℕ) → List (BTreeSet ℕ) → Option ℕ → ℕ → ℕ → Type 0
HeldBefore pairs sets low n v = (p : ℕ) × (p < n) × IsAbove pairs low p × (holds sets p v ≡ true)

module _ (pairs : List (ℕ × ℕ)) (sets : List (BTreeSet ℕ)) (low : Option ℕ) where
  pub none_before : (v : ℕ) → HeldBefore pairs sets low 0 v → ⊥
  none_before v h = let past : h.0 < 0 = h.1 in omega (arith, past)

  pub one_more : (n : ℕ) (a b : Option ℕ) → IsLeastOf (HeldBefore pairs sets low n) a → IsLeastOf (λ v. IsAbove pairs low n × (holds sets n v ≡ true)) b → IsLeastOf (HeldBefore pairs sets low (n + 1)) (lesser_of a b)
  one_more n a b = least_join (HeldBefore pairs sets low n) (λ v. IsAbove pairs low n × (holds sets n v ≡ true)) (HeldBefore pairs sets low (n + 1)) split left right a b
    where
      split : (v : ℕ) → HeldBefore pairs sets low (n + 1) v → HeldBefore pairs sets low n v ⊎ (IsAbove pairs low n × (holds sets n v ≡ true))
      split v h =
          elim (cases_lt h.0 n) [
            | inl early ↦ inl (h.0, early, h.2, h.3)
            | inr late ↦ (let same : h.0 ≡ n = omega (arith, late, h.1) in inr (subst (IsAbove pairs low) same h.2, subst (λ p. holds sets p v ≡ true) same h.3))
          ]

      left : (v : ℕ) → HeldBefore pairs sets low n v → HeldBefore pairs sets low (n + 1) v
      left v h = let lt : h.0 < n + 1 = omega (arith, h.1) in (h.0, lt, h.2, h.3)

      right : (v : ℕ) → IsAbove pairs low n × (holds sets n v ≡ true) → HeldBefore pairs sets low (n + 1) v
      right v h = let lt : n < n + 1 = omega arith in (n, lt, h.0, h.1)

  pub all_held : (n : ℕ) (a : Option ℕ) → length sets ≤ n → IsLeastOf (HeldBefore pairs sets low n) a → IsLeastOf (IsHeld pairs sets low) a
  all_held n None le h = λ v k. h v (within v k)
    where
      within : (v : ℕ) → IsHeld pairs sets low v → HeldBefore pairs sets low n v
      within v k = let small = holds_within sets k.0 v k.2 in let lt : k.0 < n = omega (arith, small, le) in (k.0, lt, k.1, k.2)
  all_held n (Some u) le h = ((h.0.0, h.0.2, h.0.3), λ w less k. let small = holds_within sets k.0 w k.2 in let lt : k.0 < n = omega (arith, small, le) in h.1 w less (k.0, lt, k.1, k.2))
