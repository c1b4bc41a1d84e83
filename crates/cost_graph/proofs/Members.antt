-- Members of lists.
use Rattle.std.proofs.Common.{◌≡◌, ℕ, zero, suc, ◌<◌, ◌≤◌, Bool, true, false, cond, List, [], ◌∷◌, ◌++◌, length, take, drop, refl, sym, ap, ◌∙◌, subst, inl, inr, arith, ◌⊎◌, ◌==◌}
use Rattle.std.specs.Prelude.{nat_eq}
use Rattle.std.specs.List.{Contains, IsDistinct, AllByRecursion, filter, count_by}
use Rattle.std.specs.Set.{is_member}
use Rattle.std.proofs.lemmas.Map.Made.{is_member-Decides}
use Rattle.std.proofs.lemmas.Bool.{cases_Bool, both_ways, eqb-true, eq-eqb, cond-true, cond_both, ne_eqb}
use Rattle.std.proofs.lemmas.List.{take-append-drop}
use Rattle.std.proofs.lemmas.List.Elements.{Contains-append_left, Contains-append_right, All-contains, All-from_recursion}
use Rattle.std.proofs.lemmas.List.Sums.{sum_by-cons}

pub decides_eq : (a b : ℕ) → ((nat_eq a b ≡ true) → a ≡ b) × (a ≡ b → nat_eq a b ≡ true)
decides_eq a b = (eqb-true a b, eq-eqb a b)

pub member_or_not : (xs : List ℕ) (v : ℕ) → Contains xs v ⊎ (Contains xs v → ⊥)
member_or_not xs v =
    let d = is_member-Decides decides_eq xs v in
    elim (cases_Bool (is_member nat_eq xs v)) [ inl y ↦ inl (d.0 y) | inr n ↦ inr (λ c. both_ways _ n (d.1 c)) ]

pub no_member : {X : Type 0} (v : X) → Contains [] v → ⊥
no_member v c = let h : c.0 < 0 = c.1 in omega arith

pub member_cons : {X : Type 0} (x : X) (xs : List X) (v : X) → Contains (x ∷ xs) v → (x ≡ v) ⊎ Contains xs v
member_cons x xs v (zero, lt, e) = inl e
member_cons x xs v (suc k, lt, e) = let below : k < length xs = omega arith in inr (k, below, e)

pub member_head : {X : Type 0} (x : X) (xs : List X) → Contains (x ∷ xs) x
member_head x xs = let h : 0 < length (x ∷ xs) = omega arith in (0, h, refl)

pub member_tail : {X : Type 0} (x : X) (xs : List X) (v : X) → Contains xs v → Contains (x ∷ xs) v
member_tail x xs v c = let h : suc c.0 < length (x ∷ xs) = omega (arith, c.1) in (suc c.0, h, c.2)

-- ---- distinct lists

pub distinct_right : (xs ys : List ℕ) → IsDistinct nat_eq (xs ++ ys) → IsDistinct nat_eq ys
unfolding IsDistinct
distinct_right [] ys h = h
distinct_right (x ∷ xs) ys h = distinct_right xs ys h.1

pub distinct_left : (xs ys : List ℕ) → IsDistinct nat_eq (xs ++ ys) → IsDistinct nat_eq xs
unfolding IsDistinct
distinct_left [] ys h = tt
distinct_left (x ∷ xs) ys h = (front xs h.0, distinct_left xs ys h.1)
  where
    front : (zs : List ℕ) → AllByRecursion (λ y. nat_eq x y ≡ false) (zs ++ ys) → AllByRecursion (λ y. nat_eq x y ≡ false) zs
    front [] a = tt
    front (z ∷ zs) a = (a.0, front zs a.1)

pub distinct_apart : (xs ys : List ℕ) (v : ℕ) → IsDistinct nat_eq (xs ++ ys) → Contains xs v → Contains ys v → ⊥
unfolding IsDistinct
distinct_apart [] ys v h a b = no_member v a
distinct_apart (x ∷ xs) ys v h a b =
    elim (member_cons x xs v a) [
      | inl e ↦ both_ways _ (All-contains (λ y. nat_eq x y ≡ false) (xs ++ ys) v (All-from_recursion _ _ h.0) (Contains-append_right xs ys v b)) (eq-eqb x v e)
      | inr c ↦ distinct_apart xs ys v h.1 c b
    ]

-- ---- counts

pub counts_one : (p : ℕ → Bool) (xs : List ℕ) (v : ℕ) → Contains xs v → p v ≡ true → 1 ≤ count_by p xs
counts_one p [] v c h = absurd (no_member v c)
counts_one p (x ∷ xs) v c h =
    let e = sum_by-cons (λ y. cond (p y) 1 0) x xs in
    elim (member_cons x xs v c) [
      | inl same ↦ let one = cond-true {A = ℕ} (p x) 1 0 (ap p same ∙ h) in omega (arith, e, one)
      | inr later ↦ omega (arith, e, counts_one p xs v later h)
    ]

pub misses_one : (p : ℕ → Bool) (xs : List ℕ) → count_by p xs < length xs → (v : ℕ) × Contains xs v × (p v ≡ false)
misses_one p [] h = absurd (omega (arith, h))
misses_one p (x ∷ xs) h =
    let e = sum_by-cons (λ y. cond (p y) 1 0) x xs in
    elim (cases_Bool (p x)) [
      | inl y ↦
          let one = cond-true {A = ℕ} (p x) 1 0 y in
          let less : count_by p xs < length xs = omega (arith, e, one, h) in
          let found = misses_one p xs less in
          (found.0, member_tail x xs found.0 found.1, found.2)
      | inr n ↦ (x, member_head x xs, n)
    ]

pub distinct_filter : (p : ℕ → Bool) (xs : List ℕ) → IsDistinct nat_eq xs → IsDistinct nat_eq (filter p xs)
unfolding IsDistinct
distinct_filter p [] h = tt
distinct_filter p (x ∷ xs) h =
    cond_both (p x) (x ∷ filter p xs) (filter p xs) (IsDistinct nat_eq) (λ _. (kept xs h.0, distinct_filter p xs h.1)) (λ _. distinct_filter p xs h.1)
  where
    kept : (zs : List ℕ) → AllByRecursion (λ y. nat_eq x y ≡ false) zs → AllByRecursion (λ y. nat_eq x y ≡ false) (filter p zs)
    kept [] a = tt
    kept (z ∷ zs) a = cond_both (p z) (z ∷ filter p zs) (filter p zs) (AllByRecursion (λ y. nat_eq x y ≡ false)) (λ _. (a.0, kept zs a.1)) (λ _. kept zs a.1)

pub distinct_join : (xs ys : List ℕ) → IsDistinct nat_eq xs → IsDistinct nat_eq ys → ((v : ℕ) → Contains xs v → Contains ys v → ⊥) → IsDistinct nat_eq (xs ++ ys)
unfolding IsDistinct
distinct_join [] ys a b h = b
distinct_join (x ∷ xs) ys a b h = (front xs a.0, distinct_join xs ys a.1 b (λ v c d. h v (member_tail x xs v c) d))
  where
    rest : (zs : List ℕ) → (Contains zs x → ⊥) → AllByRecursion (λ y. nat_eq x y ≡ false) zs
    rest [] n = tt
    rest (z ∷ zs) n = (ne_eqb x z (λ e. n (subst (Contains (z ∷ zs)) (sym e) (member_head z zs))), rest zs (λ c. n (member_tail z zs x c)))

    front : (zs : List ℕ) → AllByRecursion (λ y. nat_eq x y ≡ false) zs → AllByRecursion (λ y. nat_eq x y ≡ false) (zs ++ ys)
    front [] a' = rest ys (λ c. h x (member_head x xs) c)
    front (z ∷ zs) a' = (a'.0, front zs a'.1)

-- each parent of v has been seen, or one has not
pub parents_seen : (seen ps : List ℕ) → ((u : ℕ) → Contains ps u → Contains seen u) ⊎ ((u : ℕ) × Contains ps u × (Contains seen u → ⊥))
parents_seen seen [] = inl (λ u c. absurd (no_member u c))
parents_seen seen (p ∷ ps) =
    elim (parents_seen seen ps) [
      | inr r ↦ inr (r.0, member_tail p ps r.0 r.1, r.2)
      | inl rest ↦ elim (member_or_not seen p) [
        | inr lacks ↦ inr (p, member_head p ps, lacks)
        | inl has ↦ inl (λ u c. elim (member_cons p ps u c) [ inl e ↦ subst (Contains seen) e has | inr late ↦ rest u late ])
      ]
    ]

pub in_drop : {X : Type 0} (xs : List X) (n : ℕ) (k : X) → Contains (drop n xs) k → Contains xs k
in_drop xs n k c = subst (λ l. Contains l k) (take-append-drop n xs) (Contains-append_right (take n xs) (drop n xs) k c)

pub in_take : {X : Type 0} (xs : List X) (n : ℕ) (k : X) → Contains (take n xs) k → Contains xs k
in_take xs n k c = subst (λ l. Contains l k) (take-append-drop n xs) (Contains-append_left (take n xs) (drop n xs) k c)

pub no_member_short : (xs : List ℕ) (u : ℕ) → (length xs == 0) ≡ true → Contains xs u → ⊥
no_member_short [] u e c = no_member u c
no_member_short (x ∷ xs) u e c = absurd (omega (arith, eqb-true (length (x ∷ xs)) 0 e))

pub short_from_none : (xs : List ℕ) → ((u : ℕ) → Contains xs u → ⊥) → (length xs == 0) ≡ true
short_from_none [] h = refl
short_from_none (x ∷ xs) h = absurd (h x (member_head x xs))
