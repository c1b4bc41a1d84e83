-- How changes along a list grow, place by place.
use Rattle.std.proofs.Common.{◌≡◌, ℕ, zero, suc, ◌+◌, List, [], ◌∷◌, length, map, set, Some, sym, refl, ap, subst, arith}
use Rattle.std.proofs.lemmas.Option.{same_Some, none-some}
use Rattle.std.specs.Prelude.{slice_get}
use Rattle.std.specs.List.{AllZip}
use Rattle.priority_deques.specs.Books.{AsBefore, ChangedAt}

pub at_mapped : {A B : Type 0} (f : A → B) (xs : List A) (i : ℕ) (a : A) → slice_get xs i ≡ Some a → slice_get (map f xs) i ≡ Some (f a)
at_mapped f [] i a e = absurd (none-some a e)
at_mapped f (x ∷ xs) zero a e = ap (λ z. Some (f z)) (same_Some x a e)
at_mapped f (x ∷ xs) (suc i) a e = at_mapped f xs i a e

-- a change of one item alone
pub changed_one : {A : Type 0} (S : A → A → Type 0) (k : ℕ) (xs : List A) (a b : A) → slice_get xs k ≡ Some a → S a b → ChangedAt AsBefore S k xs (set xs k b)
changed_one S k [] a b at s = absurd (none-some a at)
changed_one S zero (x ∷ xs) a b at s = (subst (λ z. S z b) (sym (same_Some x a at)) s, refl)
changed_one S (suc k) (x ∷ xs) a b at s = (refl, changed_one S k xs a b at s)

module _ {A : Type 0} (R : A → A → Type 0) where
  -- the first n have changed by R, and those behind them are as before
  abbrev pub FrontChanged : ℕ → List A → List A → Type 0
  FrontChanged zero xs ys = ys ≡ xs
  FrontChanged (suc n) [] ys = ⊥
  FrontChanged (suc n) (x ∷ xs) [] = ⊥
  FrontChanged (suc n) (x ∷ xs) (y ∷ ys) = R x y × FrontChanged n xs ys

  first_next : (xs : List A) (a b : A) → slice_get xs 0 ≡ Some a → R a b → FrontChanged 1 xs (set xs 0 b)
  first_next [] a b at r = absurd (none-some a at)
  first_next (x ∷ xs) a b at r = (subst (λ z. R z b) (sym (same_Some x a at)) r, refl)

  front_suc : (n : ℕ) (xs ys : List A) (a b : A) → FrontChanged n xs ys → slice_get ys n ≡ Some a → R a b → FrontChanged (suc n) xs (set ys n b)
  front_suc zero xs ys a b h at r = subst (λ (l : List A). FrontChanged 1 xs (set l 0 b)) (sym h) (first_next xs a b (subst (λ (l : List A). slice_get l 0 ≡ Some a) h at) r)
  front_suc (suc n) [] ys a b h at r = absurd h
  front_suc (suc n) (x ∷ xs) [] a b h at r = absurd h
  front_suc (suc n) (x ∷ xs) (y ∷ ys) a b h at r = (h.0, front_suc n xs ys a b h.1 at r)

  pub front_next : (n : ℕ) (xs ys : List A) (a b : A) → FrontChanged n xs ys → slice_get ys n ≡ Some a → R a b → FrontChanged (n + 1) xs (set ys n b)
  front_next n xs ys a b h at r = let e : suc n ≡ n + 1 = omega arith in subst (λ m. FrontChanged m xs (set ys n b)) e (front_suc n xs ys a b h at r)

  pub front_all : (xs ys : List A) → FrontChanged (length xs) xs ys → AllZip R xs ys
  front_all [] [] h = tt
  front_all [] (y ∷ ys) h = absurd (let l : suc (length ys) ≡ 0 = ap length h in omega arith)
  front_all (x ∷ xs) [] h = absurd h
  front_all (x ∷ xs) (y ∷ ys) h = (h.0, front_all xs ys h.1)

  module _ (S : A → A → Type 0) where
    first_found : (xs : List A) (a b : A) → slice_get xs 0 ≡ Some a → S a b → ChangedAt R S 0 xs (set xs 0 b)
    first_found [] a b at s = absurd (none-some a at)
    first_found (x ∷ xs) a b at s = (subst (λ z. S z b) (sym (same_Some x a at)) s, refl)

    pub front_found : (n : ℕ) (xs ys : List A) (a b : A) → FrontChanged n xs ys → slice_get ys n ≡ Some a → S a b → ChangedAt R S n xs (set ys n b)
    front_found zero xs ys a b h at s = subst (λ (l : List A). ChangedAt R S 0 xs (set l 0 b)) (sym h) (first_found xs a b (subst (λ (l : List A). slice_get l 0 ≡ Some a) h at) s)
    front_found (suc n) [] ys a b h at s = absurd h
    front_found (suc n) (x ∷ xs) [] a b h at s = absurd h
    front_found (suc n) (x ∷ xs) (y ∷ ys) a b h at s = (h.0, front_found n xs ys a b h.1 at s)
