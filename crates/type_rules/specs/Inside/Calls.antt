-- Whether a procedure's constraints hold under the priorities of a call.
use Rattle.std.specs.Prelude.{List, Bool, true, false}
use Rattle.std.specs.List.{All, Contains}
use Rattle.priml_syntax.specs.declared.prio.Prio.{Prio}
use Rattle.priority_order.specs.Order.{Pair}
use Rattle.constraint_proof.specs.Entailed.{Constraint, Entailed}
use Rattle.type_rules.specs.Typing.{subst_prio}

-- the answer tells whether each of them holds
abbrev pub GivenAnswer : List Pair → List Constraint → List Prio → List Constraint → Bool → Type 0
GivenAnswer pairs given ps wanted true = All (λ (c : Constraint). Entailed pairs given (subst_prio ps c.0) (subst_prio ps c.1)) wanted
GivenAnswer pairs given ps wanted false = (c : Constraint) × Contains wanted c × (Entailed pairs given (subst_prio ps c.0) (subst_prio ps c.1) → ⊥)
