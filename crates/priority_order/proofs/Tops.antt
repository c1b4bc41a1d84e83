-- Among numbers of some kind, if there is one, some number is below none.
use Rattle.std.proofs.Common.{ℕ, zero, suc, ◌<◌, List, refl, sym, subst, ◌⊎◌, inl, inr, arith, below_more}
use Rattle.priority_order.specs.Order.{Pair, AtMost, IsBelow, IsLawful}
use Rattle.priority_order.proofs.Paths.{transitive}
use Rattle.priority_order.proofs.Decided.{below_or_not}

pub below_trans : (ps : List Pair) → IsLawful ps → (a b c : ℕ) → IsBelow ps a b → IsBelow ps b c → IsBelow ps a c
below_trans ps law a b c x y = record {
  at_most = transitive ps a b c x.at_most y.at_most;
  differ = λ e. law.antisymmetric a b x (subst (λ z. AtMost ps b z) (sym e) y.at_most);
}

below_suc : (Q : ℕ → Type 0) (n : ℕ) → ((k : ℕ) → k < n → Q k) → Q n → (k : ℕ) → k < suc n → Q k
below_suc Q n h x k l = below_more Q n h x k (omega arith)

-- a number of the kind below n, and below no number of the kind below n
pub record Top (ps : List Pair) (Kind : ℕ → Type 0) (n : ℕ) : Type 0 where
  pub top : ℕ
  pub within : top < n
  pub is : Kind top
  pub none : (b : ℕ) → b < n → Kind b → IsBelow ps top b → ⊥

module _ (ps : List Pair) (law : IsLawful ps) (Kind : ℕ → Type 0) (tells : (a : ℕ) → Kind a ⊎ (Kind a → ⊥)) where
  over : (n : ℕ) → Kind n → (t : Top ps Kind n) → IsBelow ps t.top n ⊎ (IsBelow ps t.top n → ⊥) → Top ps Kind (suc n)
  over n k t (inl up) = record {
    top = n;
    within = omega arith;
    is = k;
    none = below_suc (λ b. Kind b → IsBelow ps n b → ⊥) n (λ b l kb h. t.none b l kb (below_trans ps law t.top n b up h)) (λ _ h. h.differ refl);
  }
  over n k t (inr lacks) = record {
    top = t.top;
    within = let l = t.within in omega arith;
    is = t.is;
    none = below_suc (λ b. Kind b → IsBelow ps t.top b → ⊥) n t.none (λ _ h. lacks h);
  }

  step : (n : ℕ) → Kind n ⊎ (Kind n → ⊥) → ((a : ℕ) → a < n → Kind a → ⊥) ⊎ Top ps Kind n → ((a : ℕ) → a < suc n → Kind a → ⊥) ⊎ Top ps Kind (suc n)
  step n (inl k) (inl none) = inr (record {
    top = n;
    within = omega arith;
    is = k;
    none = below_suc (λ b. Kind b → IsBelow ps n b → ⊥) n (λ b l kb _. none b l kb) (λ _ h. h.differ refl);
  })
  step n (inl k) (inr t) = inr (over n k t (below_or_not ps t.top n))
  step n (inr lacks) (inl none) = inl (below_suc (λ b. Kind b → ⊥) n none lacks)
  step n (inr lacks) (inr t) = inr (record {
    top = t.top;
    within = let l = t.within in omega arith;
    is = t.is;
    none = below_suc (λ b. Kind b → IsBelow ps t.top b → ⊥) n t.none (λ kb _. lacks kb);
  })

  -- no number below n is of the kind, or there is a top
  pub top_below : (n : ℕ) → ((a : ℕ) → a < n → Kind a → ⊥) ⊎ Top ps Kind n
  top_below zero = inl (λ a l. absurd (omega arith))
  top_below (suc n) = step n (tells n) (top_below n)
