-- What declared pairs and assumed constraints entail.
use Rattle.std.specs.Prelude.{ℕ, ◌<◌, List}
use Rattle.std.specs.List.{Contains, All}
use Rattle.priml_syntax.specs.declared.prio.Prio.{Prio}
use Rattle.priml_syntax.specs.declared.prio.Prio.TheVariants.{Const, Var}
use Rattle.priority_order.specs.Order.{Pair}
pub use Rattle.priml_syntax.specs.Tree.{Constraint}

-- the rules by which a constraint is entailed, and there is no other
pub data Entailed (pairs : List Pair) (given : List Constraint) : Prio → Prio → Type 0 where
  by_declared : {a b : ℕ} → Contains pairs (a, b) → Entailed pairs given (Const a) (Const b)
  by_assumed : {p q : Prio} → Contains given (p, q) → Entailed pairs given p q
  by_reflexive : {p : Prio} → Entailed pairs given p p
  by_transitive : {p q r : Prio} → Entailed pairs given p q → Entailed pairs given q r → Entailed pairs given p r

-- how many priority variables there can be
abbrev pub most_variables : ℕ
most_variables = 64

-- a declared priority below the count, or one of the variables
abbrev pub IsValid : ℕ → Prio → Type 0
IsValid count (Const a) = a < count
IsValid count (Var v) = v < most_variables

-- both priorities of each constraint are valid
abbrev pub AreValid : ℕ → List Constraint → Type 0
AreValid count = All (λ (c : Constraint). IsValid count c.0 × IsValid count c.1)
