-- What a look-up in an index set of lists tells of the lists in it.
use Rattle.std.proofs.Common.{◌≡◌, ℕ, zero, suc, ◌+◌, ◌<◌, List, [], ◌∷◌, ◌++◌, Bool, true, false, not, cond, length, map, slice_get, position, Option, Some, None, refl, sym, ap, subst, ◌∙◌, if◌then◌else◌, arith}
use Rattle.std.specs.Prelude.{nat_eq}
use Rattle.std.specs.List.{list_any, position_or_len}
use Rattle.std.specs.Option.{option_map}
use Rattle.std.specs.Cmp.Lexicographic.{pointwise, same_text, other_text}
use Rattle.std.specs.declared.vec.Vec.{Vec}
use Rattle.std.proofs.Math.Numerals.{one-add}
use Rattle.std.proofs.lemmas.Bool.{or_parts, ltb-true, cond-false}
use Rattle.std.proofs.lemmas.List.{map-append}
use Rattle.std.proofs.lemmas.Option.{cond_some, slice_get-map}

module _ {A : Type 0} (test : A → Bool) where
  behind_first : (x : A) (xs : List A) (y : A) → test x ≡ false → slice_get xs (position_or_len test xs) ≡ Some y → slice_get (x ∷ xs) (position_or_len test (x ∷ xs)) ≡ Some y
  behind_first x xs y e at = rw (e, one-add) at

  -- the first element that passes
  first_at : (xs : List A) → position_or_len test xs < length xs → (x : A) × (slice_get xs (position_or_len test xs) ≡ Some x) × (test x ≡ true)
  first_at [] h = absurd (omega arith)
  first_at (x ∷ xs) h = go (test x) refl (first_at xs)
    where
      go : (b : Bool) → test x ≡ b → (position_or_len test xs < length xs → (y : A) × (slice_get xs (position_or_len test xs) ≡ Some y) × (test y ≡ true)) → (y : A) × (slice_get (x ∷ xs) (position_or_len test (x ∷ xs)) ≡ Some y) × (test y ≡ true)
      go true e rest = (x, rw e refl, e)
      go false e rest =
          let longer : 1 + position_or_len test xs < length (x ∷ xs) = subst (λ b. cond (not b) (1 + position_or_len test xs) 0 < length (x ∷ xs)) e h in
          let inner : position_or_len test xs < length xs = omega arith in
          let found = rest inner in
          (found.0, behind_first x xs found.0 e found.1, found.2)

  -- the element at the place that a search tells
  pub position_at : (xs : List A) (i : ℕ) → position test xs ≡ Some i → (x : A) × (slice_get xs i ≡ Some x) × (test x ≡ true)
  position_at xs i e =
      let parts = cond_some _ _ i e in
      let found = first_at xs (ltb-true _ _ parts.0) in
      (found.0, ap (slice_get xs) (sym parts.1) ∙ found.1, found.2)

  any_none : (xs : List A) → list_any test xs ≡ false → (i : ℕ) (x : A) → slice_get xs i ≡ Some x → test x ≡ false
  any_none [] e i x at = absurd (cc)
  any_none (y ∷ xs) e zero x at = let same : y ≡ x = cc in ap test (sym same) ∙ (or_parts (test y) (list_any test xs) e).0
  any_none (y ∷ xs) e (suc i) x at = any_none xs (or_parts (test y) (list_any test xs) e).1 i x at

-- the items of each list
abbrev pub items_of : {Z : Type 0} → Vec ℕ Z → List ℕ
items_of v = v.items

-- the test by which a list is looked up
abbrev pub has_items : {Z : Type 0} → List ℕ → Vec ℕ Z → Bool
has_items items v = pointwise nat_eq items v.items

-- a list that is found stands at its place
pub found_at : {Z : Type 0} (keys : List (Vec ℕ Z)) (items : List ℕ) (k : ℕ) → position (has_items items) keys ≡ Some k → slice_get (map items_of keys) k ≡ Some items
found_at keys items k e =
    let at = position_at (has_items items) keys k e in
    slice_get-map items_of keys k ∙ ap (option_map items_of) at.1 ∙ ap Some (sym (same_text items (items_of at.0) (sym at.2)))

-- one that is not found stands nowhere
pub found_nowhere : {Z : Type 0} (keys : List (Vec ℕ Z)) (items : List ℕ) → list_any (has_items items) keys ≡ false → (k : ℕ) → slice_get (map items_of keys) k ≡ Some items → ⊥
found_nowhere {Z} keys items none k at = go (slice_get keys k) refl
  where
    go : (found : Option (Vec ℕ Z)) → slice_get keys k ≡ found → ⊥
    go None e = let clash : None ≡ Some items = ap (option_map items_of) (sym e) ∙ sym (slice_get-map items_of keys k) ∙ at in absurd (cc)
    go (Some v) e =
        let there : Some (items_of v) ≡ Some items = ap (option_map items_of) (sym e) ∙ sym (slice_get-map items_of keys k) ∙ at in
        let same : items_of v ≡ items = cc in
        other_text items (items_of v) (sym (any_none (has_items items) keys none k v e)) (sym same)

-- and becomes the last
pub added : {Z : Type 0} (keys later : List (Vec ℕ Z)) (v : Vec ℕ Z) (items : List ℕ) → list_any (has_items items) keys ≡ false → items_of v ≡ items
    → later ≡ (if list_any (has_items (items_of v)) keys then keys else keys ++ (v ∷ [])) → map items_of later ≡ map items_of keys ++ (items ∷ [])
added keys later v items none e made =
    let pushed : later ≡ keys ++ (v ∷ []) = made ∙ cond-false (list_any (has_items (items_of v)) keys) keys (keys ++ (v ∷ [])) (ap (λ n. list_any (has_items n) keys) e ∙ none) in
    ap (map items_of) pushed ∙ map-append items_of keys (v ∷ []) ∙ ap (λ n. map items_of keys ++ (n ∷ [])) e
