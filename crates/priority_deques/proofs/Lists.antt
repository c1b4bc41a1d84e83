-- What is true of each item of a list by its place, where the list changes.
use Rattle.std.proofs.Common.{◌≡◌, ◌≢◌, ℕ, zero, suc, ◌<◌, List, [], ◌∷◌, ◌++◌, length, map, set, Some, sym, refl, ap, ◌∙◌, subst, arith}
use Rattle.std.specs.Prelude.{slice_get}
use Rattle.std.proofs.lemmas.Option.{same_Some, none-some}

module _ {A : Type 0} where
  -- P of each item, with its place
  abbrev pub EachAt : (ℕ → A → Type 0) → List A → Type 0
  EachAt P xs = (k : ℕ) (x : A) → slice_get xs k ≡ Some x → P k x

  pub each_push : (P : ℕ → A → Type 0) (xs : List A) (y : A) → EachAt P xs → P (length xs) y → EachAt P (xs ++ y ∷ [])
  each_push P [] y h p zero x e = subst (P 0) (same_Some y x e) p
  each_push P [] y h p (suc k) x e = absurd (none-some x e)
  each_push P (z ∷ xs) y h p zero x e = h 0 x e
  each_push P (z ∷ xs) y h p (suc k) x e = each_push (λ j. P (suc j)) xs y (λ j. h (suc j)) p k x e

  pub each_set : (P : ℕ → A → Type 0) (xs : List A) (i : ℕ) (y : A) → P i y → ((k : ℕ) (x : A) → k ≢ i → slice_get xs k ≡ Some x → P k x) → EachAt P (set xs i y)
  each_set P [] i y p h k x e = absurd (none-some x e)
  each_set P (z ∷ xs) zero y p h zero x e = subst (P 0) (same_Some y x e) p
  each_set P (z ∷ xs) zero y p h (suc k) x e = h (suc k) x (λ q. absurd (omega (arith, q))) e
  each_set P (z ∷ xs) (suc i) y p h zero x e = h 0 x (λ q. absurd (omega (arith, q))) e
  each_set P (z ∷ xs) (suc i) y p h (suc k) x e = each_set (λ j. P (suc j)) xs i y p (λ j u n. h (suc j) u (λ q. n (omega (arith, q)))) k x e

  pub some_at : (xs : List A) (k : ℕ) → k < length xs → (x : A) × (slice_get xs k ≡ Some x)
  some_at [] k l = absurd (omega (arith, l))
  some_at (x ∷ xs) zero l = (x, refl)
  some_at (x ∷ xs) (suc k) l = some_at xs k (omega (arith, l))

  pub set_same : (xs : List A) (i : ℕ) (x y : A) → slice_get xs i ≡ Some x → y ≡ x → set xs i y ≡ xs
  set_same [] i x y at e = absurd (none-some x at)
  set_same (z ∷ xs) zero x y at e = ap (λ (w : A). w ∷ xs) (e ∙ sym (same_Some z x at))
  set_same (z ∷ xs) (suc i) x y at e = ap (λ (l : List A). z ∷ l) (set_same xs i x y at e)

  pub each_mapped : {B : Type 0} (f : A → B) (P : ℕ → B → Type 0) (xs : List A) → EachAt (λ k x. P k (f x)) xs → (k : ℕ) (y : B) → slice_get (map f xs) k ≡ Some y → P k y
  each_mapped f P [] h k y e = absurd (none-some y e)
  each_mapped f P (x ∷ xs) h zero y e = subst (P 0) (same_Some (f x) y e) (h 0 x refl)
  each_mapped f P (x ∷ xs) h (suc k) y e = each_mapped f (λ j. P (suc j)) xs (λ j. h (suc j)) k y e
