-- One more element of a list goes from what is left to what is taken.
use Rattle.std.proofs.Common.{◌≡◌, ℕ, zero, suc, ◌+◌, List, [], ◌∷◌, ◌++◌, take, drop, ap, add-one}

tail_of : {X : Type 0} → List X → List X
tail_of [] = []
tail_of (x ∷ xs) = xs

head_or : {X : Type 0} → X → List X → X
head_or d [] = d
head_or d (x ∷ xs) = x

take_suc_turn : {X : Type 0} (xs : List X) (n : ℕ) (k : X) (rest : List X) → drop n xs ≡ k ∷ rest → take (suc n) xs ≡ take n xs ++ k ∷ []
unfolding head_or
take_suc_turn [] zero k rest e = absurd (cc e)
take_suc_turn [] (suc n) k rest e = absurd (cc e)
take_suc_turn (x ∷ xs) zero k rest e = ap (λ y. y ∷ []) (ap (head_or x) e)
take_suc_turn (x ∷ xs) (suc n) k rest e = ap (λ l. x ∷ l) (take_suc_turn xs n k rest e)

drop_suc_turn : {X : Type 0} (xs : List X) (n : ℕ) (k : X) (rest : List X) → drop n xs ≡ k ∷ rest → drop (suc n) xs ≡ rest
unfolding tail_of
drop_suc_turn [] zero k rest e = absurd (cc e)
drop_suc_turn [] (suc n) k rest e = absurd (cc e)
drop_suc_turn (x ∷ xs) zero k rest e = ap tail_of e
drop_suc_turn (x ∷ xs) (suc n) k rest e = drop_suc_turn xs n k rest e

pub take_turn : {X : Type 0} (xs : List X) (n : ℕ) (k : X) (rest : List X) → drop n xs ≡ k ∷ rest → take (n + 1) xs ≡ take n xs ++ k ∷ []
take_turn xs n k rest e = rw add-one (take_suc_turn xs n k rest e)

pub drop_turn : {X : Type 0} (xs : List X) (n : ℕ) (k : X) (rest : List X) → drop n xs ≡ k ∷ rest → drop (n + 1) xs ≡ rest
drop_turn xs n k rest e = rw add-one (drop_suc_turn xs n k rest e)
