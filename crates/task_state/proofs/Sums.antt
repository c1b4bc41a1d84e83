-- Sums and facts over a list of which one item changes.
use Rattle.std.proofs.Common.{◌≡◌, ◌≢◌, ℕ, zero, suc, ◌+◌, ◌*◌, ◌<◌, ◌≤◌, List, [], ◌∷◌, ◌++◌, length, set, get_or, sym, refl, ap, subst, ⊎_elim, ◌⊎◌, inl, inr, arith, add-mul}
use mathlib.Core.Option.{some, some-injective, some-ne-none}
use lib.ListN.{get_elem?}
use Rattle.task_state.specs.Sums.{total}

module _ {A : Type 0} where
  abbrev Each : (A → Type 0) → List A → Type 0
  Each F xs = (i : ℕ) (x : A) → get_elem? xs i ≡ some x → F x

  pub total_set : (f : A → ℕ) (xs : List A) (i : ℕ) (v w : A) → get_elem? xs i ≡ some v → total f (set xs i w) + f v ≡ total f xs + f w
  total_set f [] i v w e = absurd (some-ne-none v (sym e))
  total_set f (x ∷ xs) zero v w e = let same : f x ≡ f v = ap f (some-injective x v e) in omega arith
  total_set f (x ∷ xs) (suc i) v w e = let h = total_set f xs i v w e in omega arith

  pub total_append : (f : A → ℕ) (xs ys : List A) → total f (xs ++ ys) ≡ total f xs + total f ys
  total_append f [] ys = omega arith
  total_append f (x ∷ xs) ys = let h = total_append f xs ys in omega arith

  pub total_at : (f : A → ℕ) (xs : List A) (i : ℕ) (v : A) → get_elem? xs i ≡ some v → f v ≤ total f xs
  total_at f [] i v e = absurd (some-ne-none v (sym e))
  total_at f (x ∷ xs) zero v e = let same : f x ≡ f v = ap f (some-injective x v e) in omega arith
  total_at f (x ∷ xs) (suc i) v e = let h = total_at f xs i v e in omega arith

  -- the same sum where the item that changed weighs the same
  pub total_same : (f : A → ℕ) (xs : List A) (i : ℕ) (v w : A) → get_elem? xs i ≡ some v → f w ≡ f v → total f (set xs i w) ≡ total f xs
  total_same f xs i v w e same = let h = total_set f xs i v w e in omega arith

  at_set : (l : List A) (i j : ℕ) (a b : A) → get_elem? (set l i a) j ≡ some b → ((j ≡ i) × (a ≡ b)) ⊎ ((j ≢ i) × (get_elem? l j ≡ some b))
  at_set [] i j a b e = absurd (some-ne-none b (sym e))
  at_set (x ∷ xs) zero zero a b e = inl (refl, some-injective a b e)
  at_set (x ∷ xs) zero (suc j) a b e = inr ((λ h. omega arith), e)
  at_set (x ∷ xs) (suc i) zero a b e = inr ((λ h. omega arith), e)
  at_set (x ∷ xs) (suc i) (suc j) a b e = ⊎_elim (λ t. inl (ap suc t.0, t.1)) (λ t. let n = t.0 in inr ((λ h. n (omega arith)), t.1)) (at_set xs i j a b e)

  pub each_set : (F : ℕ → A → Type 0) (xs : List A) (i : ℕ) (w : A) → F i w → ((j : ℕ) (u : A) → j ≢ i → get_elem? xs j ≡ some u → F j u)
      → (j : ℕ) (u : A) → get_elem? (set xs i w) j ≡ some u → F j u
  each_set F xs i w mine others j u e = ⊎_elim (λ (t : (j ≡ i) × (w ≡ u)). subst (λ (y : ℕ × A). F y.0 y.1) (λ c. (sym t.0 c, t.1 c)) mine)
      (λ (t : (j ≢ i) × (get_elem? xs j ≡ some u)). others j u t.0 t.1) (at_set xs i j w u e)

  pub at_append : (xs ys : List A) (i : ℕ) (a : A) → get_elem? (xs ++ ys) i ≡ some a → (get_elem? xs i ≡ some a) ⊎ ((j : ℕ) × (get_elem? ys j ≡ some a))
  at_append [] ys i a e = inr (i, e)
  at_append (x ∷ xs) ys zero a e = inl e
  at_append (x ∷ xs) ys (suc i) a e = at_append xs ys i a e

  pub total_two : (f : A → ℕ) (xs : List A) (i j : ℕ) (v u : A) → i ≢ j → get_elem? xs i ≡ some v → get_elem? xs j ≡ some u → f v + f u ≤ total f xs
  total_two f [] i j v u n a b = absurd (some-ne-none v (sym a))
  total_two f (x ∷ xs) zero zero v u n a b = absurd (n refl)
  total_two f (x ∷ xs) zero (suc j) v u n a b = let same : f x ≡ f v = ap f (some-injective x v a) in let h = total_at f xs j u b in omega arith
  total_two f (x ∷ xs) (suc i) zero v u n a b = let same : f x ≡ f u = ap f (some-injective x u b) in let h = total_at f xs i v a in omega arith
  total_two f (x ∷ xs) (suc i) (suc j) v u n a b = let h = total_two f xs i j v u (λ e. n (ap suc e)) a b in omega arith

  pub at_get : (xs : List A) (i : ℕ) (d : A) → i < length xs → get_elem? xs i ≡ some (get_or xs i d)
  at_get [] i d h = absurd (omega arith)
  at_get (x ∷ xs) zero d h = refl
  at_get (x ∷ xs) (suc i) d h = at_get xs i d (omega arith)

  pub at_lt : (xs : List A) (i : ℕ) (a : A) → get_elem? xs i ≡ some a → i < length xs
  at_lt [] i a e = absurd (some-ne-none a (sym e))
  at_lt (x ∷ xs) zero a e = omega arith
  at_lt (x ∷ xs) (suc i) a e = let h = at_lt xs i a e in omega arith

  pub total_zero : (f : A → ℕ) (xs : List A) → ((j : ℕ) (u : A) → get_elem? xs j ≡ some u → f u ≡ 0) → total f xs ≡ 0
  total_zero f [] h = refl
  total_zero f (x ∷ xs) h = let a = h 0 x refl in let b = total_zero f xs (λ j u e. h (suc j) u e) in omega arith

  pub total_le : (f g : A → ℕ) (xs : List A) → ((j : ℕ) (u : A) → get_elem? xs j ≡ some u → f u ≤ g u) → total f xs ≤ total g xs
  total_le f g [] h = omega arith
  total_le f g (x ∷ xs) h = let a = h 0 x refl in let b = total_le f g xs (λ j u e. h (suc j) u e) in omega arith

  pub total_mul : (f : A → ℕ) (n : ℕ) (xs : List A) → total (λ u. f u * n) xs ≡ total f xs * n
  total_mul f n [] = omega arith
  total_mul f n (x ∷ xs) = let h = total_mul f n xs in let d : (f x + total f xs) * n ≡ f x * n + total f xs * n = add-mul (f x) (total f xs) n in
      let a : ℕ = f x * n in let b : ℕ = total f xs * n in omega (arith, h, d)

  pub total_add : (f g : A → ℕ) (xs : List A) → total (λ u. f u + g u) xs ≡ total f xs + total g xs
  total_add f g [] = omega arith
  total_add f g (x ∷ xs) = let h = total_add f g xs in omega arith

  -- an item is cut in two
  pub total_split : (f : A → ℕ) (xs : List A) (i : ℕ) (v l r : A) → get_elem? xs i ≡ some v → total f (set xs i l ++ r ∷ []) + f v ≡ total f xs + f l + f r
  total_split f xs i v l r e = let a = total_append f (set xs i l) (r ∷ []) in let b = total_set f xs i v l e in omega arith

  each_one : (F : A → Type 0) (r : A) → F r → Each F (r ∷ [])
  each_one F r b zero u e = subst F (some-injective r u e) b
  each_one F r b (suc n) u e = absurd (some-ne-none u (sym e))

  pub each_split : (F : A → Type 0) (xs : List A) (i : ℕ) (l r : A) → F l → F r → Each F xs → Each F (set xs i l ++ r ∷ [])
  each_split F xs i l r a b h j u e = ⊎_elim (λ (t : get_elem? (set xs i l) j ≡ some u). each_set (λ _ y. F y) xs i l a (λ n y _ g. h n y g) j u t)
      (λ (t : (n : ℕ) × (get_elem? (r ∷ []) n ≡ some u)). each_one F r b t.0 u t.1) (at_append (set xs i l) (r ∷ []) j u e)

  -- two items are made one
  pub was_at : (xs : List A) (i o : ℕ) (b w : A) → ¬ (o ≡ i) → get_elem? (set xs i b) o ≡ some w → get_elem? xs o ≡ some w
  was_at xs i o b w n e = ⊎_elim (λ (t : (o ≡ i) × (b ≡ w)). absurd (n t.0)) (λ (t : (o ≢ i) × (get_elem? xs o ≡ some w)). t.1) (at_set xs i o b w e)

  pub total_join : (f : A → ℕ) (xs : List A) (i o : ℕ) (v w b z : A) → get_elem? xs i ≡ some v → get_elem? (set xs i b) o ≡ some w → f b + f z ≡ f v + f w → total f (set (set xs i b) o z) ≡ total f xs
  total_join f xs i o v w b z e g same = let a = total_set f xs i v b e in let c = total_set f (set xs i b) o w z g in omega arith

  pub each_join : (F : A → Type 0) (xs : List A) (i o : ℕ) (b z : A) → F b → F z → Each F xs → Each F (set (set xs i b) o z)
  each_join F xs i o b z hb hz h = each_set (λ _ y. F y) (set xs i b) o z hz (λ n y _ g. each_set (λ _ q. F q) xs i b hb (λ m q _ r. h m q r) n y g)
