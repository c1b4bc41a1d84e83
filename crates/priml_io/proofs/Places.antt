-- Two places of one list.
use Rattle.std.proofs.Common.{◌≡◌, List, [], ◌∷◌, ◌++◌, refl, sym, ap, ◌∙◌}

-- two places of one list: the same, or one before the other
pub data Places {A : Type 0} (a : List A) (x : A) (c : List A) (y : A) : Type 0 where
  same_place : a ≡ c → x ≡ y → Places a x c y
  comes_before : (m : List A) → c ≡ a ++ x ∷ m → Places a x c y
  comes_after : (m : List A) → a ≡ c ++ y ∷ m → Places a x c y

pub places : {A : Type 0} (a : List A) (x : A) (b c : List A) (y : A) (d : List A) → a ++ x ∷ b ≡ c ++ y ∷ d → Places a x c y
places [] x b [] y d e = let s : x ≡ y = cc in same_place refl s
places [] x b (z ∷ c) y d e = let s : z ≡ x = cc in comes_before c (ap (λ v. v ∷ c) s)
places (w ∷ a) x b [] y d e = let s : w ≡ y = cc in comes_after a (ap (λ v. v ∷ a) s)
places (w ∷ a) x b (z ∷ c) y d e =
    let head : w ≡ z = cc in
    let tail : a ++ x ∷ b ≡ c ++ y ∷ d = cc in
    go head (places a x b c y d tail)
  where
    go : w ≡ z → Places a x c y → Places (w ∷ a) x (z ∷ c) y
    go h (same_place s t) = same_place (ap (λ v. v ∷ a) h ∙ ap (λ v. z ∷ v) s) t
    go h (comes_before m s) = comes_before m (ap (λ v. z ∷ v) s ∙ ap (λ v. v ∷ (a ++ x ∷ m)) (sym h))
    go h (comes_after m s) = comes_after m (ap (λ v. w ∷ v) s ∙ ap (λ v. v ∷ (c ++ y ∷ m)) h)
