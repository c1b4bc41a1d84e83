-- Lists whose items are related place by place.
use Rattle.std.proofs.Common.{◌≡◌, ℕ, zero, suc, ◌<◌, List, [], ◌∷◌, ◌++◌, length, get_or, map, refl, sym, ap, subst, arith}
use Rattle.std.proofs.lemmas.List.{map-append}
use Rattle.inputs_text.specs.PathText.{Pairwise}

-- one more on both sides
pub pairs-more : {A B : Type 0} (R : A → B → Type 0) (xs : List A) (ys : List B) (x : A) (y : B) → Pairwise R xs ys → R x y → Pairwise R (xs ++ x ∷ []) (ys ++ y ∷ [])
pairs-more R [] [] x y p r = (r, tt)
pairs-more R [] (z ∷ ys) x y p r = absurd p
pairs-more R (z ∷ xs) [] x y p r = absurd p
pairs-more R (z ∷ xs) (w ∷ ys) x y p r = (p.0, pairs-more R xs ys x y p.1 r)

pub pairs-length : {A B : Type 0} (R : A → B → Type 0) (xs : List A) (ys : List B) → Pairwise R xs ys → length xs ≡ length ys
pairs-length R [] [] p = refl
pairs-length R [] (y ∷ ys) p = absurd p
pairs-length R (x ∷ xs) [] p = absurd p
pairs-length R (x ∷ xs) (y ∷ ys) p = omega (arith, pairs-length R xs ys p.1)

-- each item of the first list is related to one of the second
pub pairs-at : {A B : Type 0} (R : A → B → Type 0) (xs : List A) (ys : List B) (k : ℕ) (d : A) → Pairwise R xs ys → k < length xs → (y : B) × R (get_or xs k d) y
pairs-at R [] ys k d p h = absurd (omega arith)
pairs-at R (x ∷ xs) [] k d p h = absurd p
pairs-at R (x ∷ xs) (y ∷ ys) zero d p h = (y, p.0)
pairs-at R (x ∷ xs) (y ∷ ys) (suc k) d p h = pairs-at R xs ys k d p.1 (omega arith)

-- where an item has one related item at most, so has a list
pub pairs-one : {A B : Type 0} (R : A → B → Type 0) → ((x : A) (y z : B) → R x y → R x z → y ≡ z) → (xs : List A) (ys zs : List B) → Pairwise R xs ys → Pairwise R xs zs → ys ≡ zs
pairs-one R one [] [] [] p q = refl
pairs-one R one [] [] (z ∷ zs) p q = absurd q
pairs-one R one [] (y ∷ ys) zs p q = absurd p
pairs-one R one (x ∷ xs) [] zs p q = absurd p
pairs-one R one (x ∷ xs) (y ∷ ys) [] p q = absurd q
pairs-one R one (x ∷ xs) (y ∷ ys) (z ∷ zs) p q =
    let e = one x y z p.0 q.0 in
    let f = pairs-one R one xs ys zs p.1 q.1 in
    cc

-- the second list falls into parts as the first does
pub record Parted {A B : Type 0} (R : A → B → Type 0) (xs : List A) (x : A) (more : List A) (zs : List B) : Type 0 where
  pub prefix : List B
  pub item : B
  pub back : List B
  pub is : zs ≡ prefix ++ item ∷ back
  pub before : Pairwise R xs prefix
  pub here : R x item
  pub after : Pairwise R more back

pub pairs-parted : {A B : Type 0} (R : A → B → Type 0) (xs : List A) (x : A) (more : List A) (zs : List B) → Pairwise R (xs ++ x ∷ more) zs → Parted R xs x more zs
pairs-parted R [] x more [] p = absurd p
pairs-parted R [] x more (z ∷ zs) p = record { prefix = []; item = z; back = zs; is = refl; before = tt; here = p.0; after = p.1 }
pairs-parted R (w ∷ xs) x more [] p = absurd p
pairs-parted R (w ∷ xs) x more (z ∷ zs) p =
    let rest = pairs-parted R xs x more zs p.1 in
    record { prefix = z ∷ rest.prefix; item = rest.item; back = rest.back; is = ap (λ v. z ∷ v) rest.is; before = (p.0, rest.before); here = rest.here; after = rest.after }

-- one more on both sides, where the first list is read from another
pub pairs-step : {A B C : Type 0} (R : A → B → Type 0) (v : C → A) (xs : List C) (x : C) (ys zs : List B) (y : B) → Pairwise R (map v xs) ys → R (v x) y → zs ≡ ys ++ y ∷ [] → Pairwise R (map v (xs ++ x ∷ [])) zs
pairs-step R v xs x ys zs y p r e = rw (e, map-append v xs (x ∷ [])) (pairs-more R (map v xs) ys (v x) y p r)

-- where an item is related to nothing, so is the list
pub pairs-fail : {A B : Type 0} (R : A → B → Type 0) (all : List A) (n : ℕ) (x : A) → n < length all → x ≡ get_or all n x → ((y : B) → ¬ R x y) → (ys : List B) → ¬ Pairwise R all ys
pairs-fail {A} R all n x h e bad ys p =
    let found = pairs-at R all ys n x p h in
    let related : A → Type 0 = λ v. R v found.0 in
    bad found.0 (subst related (sym e) found.1)
