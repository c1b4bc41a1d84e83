-- The values of digits, and the numbers that texts are.
use Rattle.std.proofs.Common.{◌≡◌, ℕ, zero, suc, ◌-◌, ◌^◌, ◌<◌, ◌≤◌, min, ℤ, pos, ◌+ℤ◌, ◌-ℤ◌, neg_ℤ, List, [], ◌∷◌, ◌++◌, Option, None, Some, MatchOption, sym, ap, ◌∙◌, inl, inr, arith}
use Rattle.std.specs.Prelude.{FitsSigned}
use Rattle.std.specs.Option.{SomeIff}
use Rattle.std.specs.Int.{w64, cast_signed, cast_unsigned}
use Rattle.std.proofs.lemmas.Int.{ints, to_z-of_z}
use Rattle.std.proofs.lemmas.List.Elements.{All-head}
use Rattle.priml_io.specs.Words.{IsDigit, IsDigits, value_of}
use Rattle.inputs_text.specs.InputLines.{IsValue, IsNegated, IsNumberText}

plus-is : (v : ℕ) → pos 0 +ℤ pos v ≡ pos v
plus-is v = omega (arith, ints)

minus-is : (v : ℕ) → pos 0 -ℤ pos v ≡ neg_ℤ (pos v)
minus-is v = omega (arith, ints)

pos-fits : (v : ℕ) → FitsSigned w64 (pos 0 +ℤ pos v) → v < 2 ^ 63
pos-fits v h = let f : FitsSigned w64 (pos v) = rw (plus-is v) at h in f.sfits

neg-fits : (v : ℕ) → FitsSigned w64 (pos 0 -ℤ pos v) → v ≤ 2 ^ 63
neg-fits zero h = omega arith
neg-fits (suc k) h =
    let f : FitsSigned w64 (neg_ℤ (pos (suc k))) = rw (minus-is (suc k)) at h in
    let m : k < 2 ^ 63 = f.sfits in
    omega arith

small-capped : (v n : ℕ) → v ≡ min n (2 ^ 64 - 1) → v ≤ 2 ^ 63 → n ≡ v
small-capped v n e h = omega arith

capped-small : (v n : ℕ) → v ≡ min n (2 ^ 64 - 1) → n ≤ 2 ^ 63 → n ≡ v
capped-small v n e h = omega arith

-- the number of digits, if it is in range
pub value-found : (text : List ℕ) (v : ℕ) (r : Option ℤ) → IsDigits text → v ≡ min (value_of text) (2 ^ 64 - 1) → SomeIff r (FitsSigned w64 (pos 0 +ℤ pos v)) (pos 0 +ℤ pos v) → MatchOption r ((n : ℤ) → ¬ IsValue text n) (IsValue text)
value-found text v None d e s = λ n h.
    let fits : FitsSigned w64 (pos 0 +ℤ pos (value_of text)) = rw (plus-is (value_of text), ← h.1) h.2 in
    let same : value_of text ≡ v = capped-small v (value_of text) e (omega (arith, pos-fits (value_of text) fits)) in
    s (rw (← same) fits)
value-found text v (Some x) d e s =
    let same : value_of text ≡ v = small-capped v (value_of text) e (omega (arith, pos-fits v s.0)) in
    let is : x ≡ pos (value_of text) = s.1 ∙ plus-is v ∙ ap pos (sym same) in
    (d, is, rw s.1 s.0)

pub negated-found : (text : List ℕ) (v : ℕ) (r : Option ℤ) → IsDigits text → v ≡ min (value_of text) (2 ^ 64 - 1) → SomeIff r (FitsSigned w64 (pos 0 -ℤ pos v)) (pos 0 -ℤ pos v) → MatchOption r ((n : ℤ) → ¬ IsNegated text n) (IsNegated text)
negated-found text v None d e s = λ n h.
    let fits : FitsSigned w64 (pos 0 -ℤ pos (value_of text)) = rw (minus-is (value_of text), ← h.1) h.2 in
    let same : value_of text ≡ v = capped-small v (value_of text) e (neg-fits (value_of text) fits) in
    s (rw (← same) fits)
negated-found text v (Some x) d e s =
    let same : value_of text ≡ v = small-capped v (value_of text) e (neg-fits v s.0) in
    let is : x ≡ neg_ℤ (pos (value_of text)) = s.1 ∙ minus-is v ∙ ap (λ k. neg_ℤ (pos k)) (sym same) in
    (d, is, rw s.1 s.0)

minus-no_digit : (digits : List ℕ) → IsDigits (45 ∷ digits) → ⊥
minus-no_digit digits d = let h : IsDigit 45 = All-head IsDigit 45 digits d.1 in omega (arith, h.0)

-- a text stands for one number at most
pub number-one : (text : List ℕ) (n m : ℤ) → IsNumberText text n → IsNumberText text m → n ≡ m
number-one text n m (inl a) (inl b) = a.1 ∙ sym b.1
number-one text n m (inl a) (inr (ds, e, b)) = absurd (minus-no_digit ds (rw e at a.0))
number-one text n m (inr (ds, e, a)) (inl b) = absurd (minus-no_digit ds (rw e at b.0))
number-one text n m (inr (ds, e, a)) (inr (es, f, b)) =
    let same : ds ≡ es = cc in
    a.1 ∙ ap (λ t. neg_ℤ (pos (value_of t))) same ∙ sym b.1

number-fits : (text : List ℕ) (n : ℤ) → IsNumberText text n → FitsSigned w64 n
number-fits text n (inl a) = a.2
number-fits text n (inr (ds, e, b)) = b.2

-- a number is what its bits in a list of i64 stand for
pub number-kept : (text : List ℕ) (xs ys : List ℤ) (n : ℤ) → IsNumberText text n → ys ≡ xs ++ cast_signed w64 (cast_unsigned w64 n) ∷ [] → ys ≡ xs ++ n ∷ []
number-kept text xs ys n h e =
    let fits : FitsSigned w64 n = number-fits text n h in
    let same : cast_signed w64 (cast_unsigned w64 n) ≡ n = to_z-of_z w64 n fits in
    e ∙ ap (λ z. xs ++ z ∷ []) same
