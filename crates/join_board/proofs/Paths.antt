-- Paths are the same, or not.
use Rattle.std.proofs.Common.{◌≡◌, ◌≢◌, ℕ, List, subst, true, ⊎_elim}
use Rattle.priml_syntax.specs.Paths.{same_path}
use Rattle.priml_syntax.proofs.Orders.{same_path_refl}
use Rattle.core_steps.proofs.Threads.{same_or_not}

pub same_path_eq : (p q : List ℕ) → p ≡ q → same_path p q ≡ true
same_path_eq p q e = subst (λ (z : List ℕ). same_path p z ≡ true) e (same_path_refl p)

pub either_path : {A : Type 0} (p q : List ℕ) → (p ≡ q → A) → (p ≢ q → A) → A
either_path p q f g = ⊎_elim f g (same_or_not p q)
