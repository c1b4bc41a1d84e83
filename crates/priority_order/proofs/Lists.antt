-- Elements by their places.
use Rattle.std.proofs.Common.{◌≡◌, ◌≢◌, ℕ, ◌+◌, ◌<◌, true, false, List, [], ◌∷◌, ◌++◌, Some, length, get_or, take, sym, ap, subst, ◌∙◌, ◌⊎◌, inl, inr, arith}
use Rattle.std.specs.Prelude.{slice_get}
use Rattle.std.specs.List.{Contains}
use Rattle.std.proofs.Math.Dec.{eqb}
use Rattle.std.proofs.Math.Seq.{take-append_seam}
use Rattle.std.proofs.lemmas.Bool.Decides.{eqb_tells}
use Rattle.std.proofs.lemmas.List.{length-append, take-append-le, get_or_append_left, get_or_push}
use Rattle.std.proofs.lemmas.Option.{slice_get-get_or, get_or_from_slice_get, slice_get_within}

pub contains_at : {X : Type 0} (xs : List X) (k : ℕ) (x : X) → slice_get xs k ≡ Some x → Contains xs x
contains_at xs k x e = (k, slice_get_within xs k x e, get_or_from_slice_get xs k x x e)

pub at_contained : {X : Type 0} (xs : List X) (x : X) (h : Contains xs x) → slice_get xs h.0 ≡ Some x
at_contained xs x h = slice_get-get_or xs h.0 x h.1 ∙ ap Some h.2

-- an element of a list with one more is the last or stands where it stood
pub slice_get-push : {X : Type 0} (xs : List X) (y : X) (k : ℕ) (x : X) → slice_get (xs ++ y ∷ []) k ≡ Some x → ((k < length xs) × (slice_get xs k ≡ Some x)) ⊎ ((k ≡ length xs) × (y ≡ x))
slice_get-push xs y k x e = by_place (eqb_tells k (length xs))
  where
    within : k < length xs + 1
    within = omega (arith, slice_get_within (xs ++ y ∷ []) k x e, length-append xs (y ∷ []))

    is : get_or (xs ++ y ∷ []) k x ≡ x
    is = get_or_from_slice_get (xs ++ y ∷ []) k x x e

    by_place : ((eqb k (length xs) ≡ true) × (k ≡ length xs)) ⊎ ((eqb k (length xs) ≡ false) × (k ≢ length xs)) → ((k < length xs) × (slice_get xs k ≡ Some x)) ⊎ ((k ≡ length xs) × (y ≡ x))
    by_place (inl p) = inr (p.1, sym (get_or_push xs y x k (sym p.1)) ∙ is)
    by_place (inr p) =
        let l : k < length xs = let w = within in let ne = p.1 in omega arith in
        inl (l, slice_get-get_or xs k x l ∙ ap Some (sym (get_or_append_left xs (y ∷ []) x k l) ∙ is))

-- what holds of each element and those before it, where it holds of one more and all
pub each_behind-push : {X : Type 0} (P : List X → X → Type 0) (xs : List X) → ((k : ℕ) (x : X) → slice_get xs k ≡ Some x → P (take k xs) x) → (y : X) → P xs y
    → (k : ℕ) (x : X) → slice_get (xs ++ y ∷ []) k ≡ Some x → P (take k (xs ++ y ∷ [])) x
each_behind-push {X} P xs each y here k x e = by_cases (slice_get-push xs y k x e)
  where
    by_cases : ((k < length xs) × (slice_get xs k ≡ Some x)) ⊎ ((k ≡ length xs) × (y ≡ x)) → P (take k (xs ++ y ∷ [])) x
    by_cases (inl h) = subst (λ front. P front x) (sym (take-append-le k xs (y ∷ []) (let l = h.0 in omega arith))) (each k x h.1)
    by_cases (inr h) =
        let seam : take k (xs ++ y ∷ []) ≡ xs = ap (λ n. take n (xs ++ y ∷ [])) h.0 ∙ take-append_seam xs (y ∷ []) in
        subst (λ front. P front x) (sym seam) (subst (P xs) h.1 here)
