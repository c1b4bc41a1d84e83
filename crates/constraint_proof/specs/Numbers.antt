-- The number of a priority in a closure.
use Rattle.std.specs.Prelude.{ℕ, ◌+◌}
use Rattle.priml_syntax.specs.declared.prio.Prio.{Prio}
use Rattle.priml_syntax.specs.declared.prio.Prio.TheVariants.{Const, Var}
use Rattle.priml_syntax.specs.Tree.{Constraint}
use Rattle.priority_order.specs.Order.{Pair}

-- the declared priorities come first, and then the variables
abbrev pub number : ℕ → Prio → ℕ
number count (Const a) = a
number count (Var v) = count + v

-- a constraint as a pair of numbers
abbrev pub numbered : ℕ → Constraint → Pair
numbered count c = (number count c.0, number count c.1)
