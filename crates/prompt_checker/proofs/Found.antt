-- First vertices of a line, and least ones, by two readings of one property.
use Rattle.std.proofs.Common.{ℕ, List, get_or}
use Rattle.prompt_checker.specs.Verdict.{IsFirstOf, IsLeast}

pub first_same : (line : List ℕ) (P Q : ℕ → ℕ → Type 0) → ((k v : ℕ) → P k v → Q k v) → ((k v : ℕ) → Q k v → P k v) → (v : ℕ) → IsFirstOf line P v → IsFirstOf line Q v
first_same line P Q to from v h = (h.0, h.1, h.2, to h.0 v h.3, λ k lt q. h.4 k lt (from k (get_or line k 0) q))

pub least_same : (P Q : ℕ → Type 0) → ((v : ℕ) → P v → Q v) → ((v : ℕ) → Q v → P v) → (v : ℕ) → IsLeast P v → IsLeast Q v
least_same P Q to from v h = (to v h.0, λ w lt q. h.1 w lt (from w q))
