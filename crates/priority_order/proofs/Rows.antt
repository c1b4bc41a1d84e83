-- Rows of bits that one more pair changes.
use Rattle.std.proofs.Common.{◌≡◌, ◌↔◌, ℕ, ◌/◌, ◌^◌, ◌<◌, ◌≤◌, max, Bool, true, false, cond, List, [], ◌∷◌, ◌++◌, length, get_or, refl, sym, ap, ◌∙◌, subst, ◌⊎◌, inl, inr, arith, nat_eq, IsTrue, bit_and, bit_or}
use Rattle.std.specs.List.{All}
use Rattle.std.specs.Int.{bit_at}
use Rattle.std.proofs.lemmas.Bool.{eqb-true, eq-eqb}
use Rattle.std.proofs.lemmas.Bool.Decides.{eqb_tells}
use Rattle.std.proofs.lemmas.Nat.Bits.{shr_and_one, bit_at_or, bit_at-lt, bit_at-pow_same, bit_at-pow_other}
use Rattle.std.proofs.lemmas.List.Elements.{All-push}
use Rattle.priority_order.specs.Order.{Pair, AtMost}
use Rattle.priority_order.specs.Edges.{IsClosed, joined}
use Rattle.priority_order.proofs.Paths.{Pushed, pushed_from, pushed_to, same_at, at_most-none}

pub test_is_bit : (row b : ℕ) → nat_eq (bit_and (row / 2 ^ b) 1) 1 ≡ nat_eq (bit_at row b) 1
test_is_bit row b = ap (λ n. nat_eq n 1) (shr_and_one row b)

pub bit_tested : (row b : ℕ) → IsTrue (nat_eq (bit_and (row / 2 ^ b) 1) 1) ↔ (bit_at row b ≡ 1)
bit_tested row b = (λ h. sym (shr_and_one row b) ∙ eqb-true _ 1 h, λ h. eq-eqb _ 1 (shr_and_one row b ∙ h))

either_bit : (a b : ℕ) → a < 2 → b < 2 → (max a b ≡ 1) ↔ ((a ≡ 1) ⊎ (b ≡ 1))
either_bit a b p q = (to, from)
  where
    to : max a b ≡ 1 → (a ≡ 1) ⊎ (b ≡ 1)
    to h = grind arith

    from : (a ≡ 1) ⊎ (b ≡ 1) → max a b ≡ 1
    from (inl e) = omega arith
    from (inr e) = omega arith

pub or_bit : (m n y : ℕ) → (bit_at (bit_or n m) y ≡ 1) ↔ ((bit_at n y ≡ 1) ⊎ (bit_at m y ≡ 1))
or_bit m n y =
    let e = either_bit (bit_at n y) (bit_at m y) (bit_at-lt n y) (bit_at-lt m y) in
    (λ h. e.0 (sym (bit_at_or n m y) ∙ h), λ h. bit_at_or n m y ∙ e.1 h)

joined_by : (test : Bool) (a m n y : ℕ) → nat_eq (bit_at n a) 1 ≡ test → (bit_at (cond test (bit_or n m) n) y ≡ 1) ↔ ((bit_at n y ≡ 1) ⊎ ((bit_at n a ≡ 1) × (bit_at m y ≡ 1)))
joined_by true a m n y e = (to, from)
  where
    has : bit_at n a ≡ 1
    has = eqb-true _ 1 e

    to : bit_at (bit_or n m) y ≡ 1 → (bit_at n y ≡ 1) ⊎ ((bit_at n a ≡ 1) × (bit_at m y ≡ 1))
    to h = elim ((or_bit m n y).0 h) [ inl x ↦ inl x | inr x ↦ inr (has, x) ]

    from : (bit_at n y ≡ 1) ⊎ ((bit_at n a ≡ 1) × (bit_at m y ≡ 1)) → bit_at (bit_or n m) y ≡ 1
    from (inl x) = (or_bit m n y).1 (inl x)
    from (inr x) = (or_bit m n y).1 (inr x.1)
joined_by false a m n y e = (λ h. inl h, from)
  where
    from : (bit_at n y ≡ 1) ⊎ ((bit_at n a ≡ 1) × (bit_at m y ≡ 1)) → bit_at n y ≡ 1
    from (inl x) = x
    from (inr x) = absurd (let h = eq-eqb _ 1 x.0 in cc)

pub joined_bit : (a m n y : ℕ) → (bit_at (joined a m n) y ≡ 1) ↔ ((bit_at n y ≡ 1) ⊎ ((bit_at n a ≡ 1) × (bit_at m y ≡ 1)))
joined_bit a m n y = joined_by (nat_eq (bit_at n a) 1) a m n y refl

module _ (pairs : List Pair) (rows : List ℕ) (h : IsClosed pairs rows) (a b : ℕ) (a_in : a < length rows) (b_in : b < length rows) (x y : ℕ) (x_in : x < length rows) (y_in : y < length rows) where
  pub pushed_bit : (bit_at (joined a (get_or rows b 0) (get_or rows x 0)) y ≡ 1) ↔ AtMost (pairs ++ (a, b) ∷ []) x y
  pushed_bit = (λ e. pushed_to pairs (a, b) x y (to ((joined_bit a (get_or rows b 0) (get_or rows x 0) y).0 e)), λ e. (joined_bit a (get_or rows b 0) (get_or rows x 0) y).1 (from (pushed_from pairs (a, b) x y e)))
    where
      to : (bit_at (get_or rows x 0) y ≡ 1) ⊎ ((bit_at (get_or rows x 0) a ≡ 1) × (bit_at (get_or rows b 0) y ≡ 1)) → Pushed pairs (a, b) x y
      to (inl e) = inl ((h.exact x y x_in y_in).0 e)
      to (inr e) = inr ((h.exact x a x_in a_in).0 e.0, (h.exact b y b_in y_in).0 e.1)

      from : Pushed pairs (a, b) x y → (bit_at (get_or rows x 0) y ≡ 1) ⊎ ((bit_at (get_or rows x 0) a ≡ 1) × (bit_at (get_or rows b 0) y ≡ 1))
      from (inl e) = inl ((h.exact x y x_in y_in).1 e)
      from (inr e) = inr ((h.exact x a x_in a_in).1 e.0, (h.exact b y b_in y_in).1 e.1)

pub closed_push : (pairs : List Pair) (rows : List ℕ) → IsClosed pairs rows → (a b : ℕ) → a < length rows → b < length rows → (new : List ℕ) → length new ≡ length rows → ((x : ℕ) → x < length new → get_or new x 0 ≡ joined a (get_or rows b 0) (get_or rows x 0)) → IsClosed (pairs ++ (a, b) ∷ []) new
closed_push pairs rows h a b a_in b_in new len each = record {
  short = omega (arith, h.short);
  within = subst (λ n. All (λ (p : Pair). (p.0 < n) × (p.1 < n)) (pairs ++ (a, b) ∷ [])) (sym len) (All-push (λ (p : Pair). (p.0 < length rows) × (p.1 < length rows)) pairs (a, b) h.within (a_in, b_in));
  exact = λ x y x_in y_in. subst (λ n. (bit_at n y ≡ 1) ↔ AtMost (pairs ++ (a, b) ∷ []) x y) (sym (each x x_in)) (pushed_bit pairs rows h a b a_in b_in x y (omega arith) (omega arith));
}

alone : (x y : ℕ) → (bit_at (2 ^ x) y ≡ 1) ↔ (x ≡ y)
alone x y = elim (eqb_tells x y) [
  | inl e ↦ (λ _. e.1, λ _. subst (λ z. bit_at (2 ^ x) z ≡ 1) e.1 (bit_at-pow_same x))
  | inr e ↦ (λ h. absurd (let z = bit_at-pow_other x y (λ r. e.1 (sym r)) in omega arith), λ h. absurd (e.1 h))
]

pub closed_none : (rows : List ℕ) → length rows ≤ 128 → ((k : ℕ) → k < length rows → get_or rows k 0 ≡ 2 ^ k) → IsClosed [] rows
closed_none rows short each = record {
  short = short;
  within = λ k d h. absurd (omega arith);
  exact = λ x y x_in y_in. subst (λ n. (bit_at n y ≡ 1) ↔ AtMost [] x y) (sym (each x x_in)) (λ h. same_at [] x y ((alone x y).0 h), λ h. (alone x y).1 (at_most-none x y h));
}
