-- The first place of a line, and the least number, at which something that can be told holds.
use Rattle.std.proofs.Common.{◌≡◌, ℕ, zero, suc, ◌<◌, List, length, get_or, refl, subst, ◌⊎◌, inl, inr, arith}
use Rattle.std.specs.Prelude.{Option, None, Some}
use Rattle.std.proofs.lemmas.Bool.{cases_lt}
use Rattle.prompt_checker.specs.Verdict.{IsLeast}
use Rattle.prompt_checker.specs.Inside.Watch.{IsFound, IsLeastOf}

module _ (P : ℕ → Type 0) (each : (u : ℕ) → P u ⊎ (P u → ⊥)) where
  abbrev Upto : ℕ → Type 0
  Upto n = ((k : ℕ) → k < n → P k → ⊥) ⊎ ((u : ℕ) × (u < n) × IsLeast P u)

  one_more : (n : ℕ) → Upto n → P n ⊎ (P n → ⊥) → Upto (suc n)
  one_more n (inr h) here = inr (h.0, omega (arith, h.1), h.2)
  one_more n (inl none) (inl h) = inr (n, omega arith, (h, none))
  one_more n (inl none) (inr not) =
      inl (λ k low h. elim (cases_lt k n) [
        | inl early ↦ none k early h
        | inr late ↦ (let same : k ≡ n = omega (arith, late, low) in not (subst P same h))
      ])

  pub least_below : (n : ℕ) → Upto n
  least_below zero = inl (λ k low h. omega (arith, low))
  least_below (suc n) = one_more n (least_below n) (each n)

  -- the least number, where it holds of none from n on
  pub least_found : (n : ℕ) → ((u : ℕ) → P u → u < n) → (r : Option ℕ) × IsLeastOf P r
  least_found n below =
      elim (least_below n) [
        | inl none ↦ (None, λ u h. none u (below u h) h)
        | inr least ↦ (Some least.0, least.2)
      ]

-- the first vertex of a line
pub first_found : (line : List ℕ) (P : ℕ → ℕ → Type 0) → ((j v : ℕ) → P j v ⊎ (P j v → ⊥)) → (r : Option ℕ) × IsFound line P r
first_found line P each =
    elim (least_below (λ k. P k (get_or line k 0)) (λ k. each k (get_or line k 0)) (length line)) [
      | inl none ↦ (None, none)
      | inr least ↦ (Some (get_or line least.0 0), (least.0, least.1, refl, least.2.0, least.2.1))
    ]
