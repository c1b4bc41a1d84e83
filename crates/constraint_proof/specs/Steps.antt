-- A derivation as a list of steps.
use Rattle.std.specs.Prelude.{◌≡◌, ℕ, ◌-◌, List, length, take, slice_get, Some}
use Rattle.priml_syntax.specs.declared.prio.Prio.{Prio}
use Rattle.priml_syntax.specs.declared.prio.Prio.TheVariants.{Const}
use Rattle.priority_order.specs.Order.{Pair}
use Rattle.constraint_proof.specs.Entailed.{Constraint}
use Rattle.constraint_proof.specs.declared.derivation.Rule.{Rule}
use Rattle.constraint_proof.specs.declared.derivation.Rule.TheVariants.{Declared, Assumed, Reflexive, Transitive}
use Rattle.constraint_proof.specs.declared.derivation.Step.{Step}

-- steps i and j stand before, the first leads from p to some priority, and the second from there to q
abbrev pub Links : List Step → ℕ → ℕ → Prio → Prio → Type 0
Links before i j p q =
    (x y : Step) × (slice_get before i ≡ Some x) × (slice_get before j ≡ Some y) × (x.left ≡ p) × (x.right ≡ y.left) × (y.right ≡ q)

-- the rule gives p at most q, from the steps before
abbrev pub RuleFits : List Pair → List Constraint → List Step → Rule → Prio → Prio → Type 0
RuleFits pairs given before (Declared i) p q = (a b : ℕ) × (slice_get pairs i ≡ Some (a, b)) × (p ≡ Const a) × (q ≡ Const b)
RuleFits pairs given before (Assumed i) p q = slice_get given i ≡ Some (p, q)
RuleFits pairs given before Reflexive p q = p ≡ q
RuleFits pairs given before (Transitive i j) p q = Links before i j p q

-- the step is an instance of its rule, from the steps before it
abbrev pub StepFits : List Pair → List Constraint → List Step → Step → Type 0
StepFits pairs given before s = RuleFits pairs given before s.rule s.left s.right

-- each step is an instance of its rule, and there is a last, which concludes the goal
pub record IsAccepted (pairs : List Pair) (given : List Constraint) (goal : Constraint) (steps : List Step) : Type 0 where
  pub each : (k : ℕ) (s : Step) → slice_get steps k ≡ Some s → StepFits pairs given (take k steps) s
  pub last : Step
  pub is : slice_get steps (length steps - 1) ≡ Some last
  pub left : last.left ≡ goal.0
  pub right : last.right ≡ goal.1
