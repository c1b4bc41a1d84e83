-- What questions about constraints are answered from: declared pairs and assumed constraints.
use Rattle.std.specs.Prelude.{ℕ, ◌+◌, ◌≤◌, List, ◌++◌, map, refl, ◌≡◌}
use Rattle.std.proofs.Common.{◌⊎◌, inl, inr}
use Rattle.std.specs.Coded.{Coded, code_by, coded×, coded_ℕ, coded_list, coded⊎}
use Rattle.priml_syntax.specs.declared.prio.Prio.{Prio}
use Rattle.priml_syntax.specs.declared.prio.Prio.TheVariants.{Const, Var}
use Rattle.priority_order.specs.Order.{Pair, IsWithin}
use Rattle.priority_order.specs.Edges.{Edges, most_numbers}
use Rattle.constraint_proof.specs.Entailed.{Constraint, AreValid, most_variables}
use Rattle.constraint_proof.specs.Numbers.{numbered}

-- the count of declared priorities, the declared pairs and the assumed constraints
pub record Facts : Type 0 where
  pub count : ℕ
  pub pairs : List Pair
  pub given : List Constraint

-- a declared priority to the left, a variable to the right
abbrev out_prio : Prio → ℕ ⊎ ℕ
out_prio (Const a) = inl a
out_prio (Var v) = inr v

-- and back
abbrev in_prio : ℕ ⊎ ℕ → Prio
in_prio (inl a) = Const a
in_prio (inr v) = Var v

-- there and back is the same priority
abbrev in_out : (p : Prio) → in_prio (out_prio p) ≡ p
in_out (Const a) = refl
in_out (Var v) = refl

-- a priority as a number
abbrev pub prio_code : Coded Prio
prio_code = code_by (ℕ ⊎ ℕ) (coded⊎ coded_ℕ coded_ℕ) out_prio in_prio in_out

-- pairs, and constraints, as numbers
abbrev pub pairs_code : Coded (List Pair)
pairs_code = coded_list (coded× coded_ℕ coded_ℕ)

abbrev pub constraints_code : Coded (List Constraint)
constraints_code = coded_list (coded× prio_code prio_code)

-- count, pairs and constraints as numbers
abbrev pub facts_code : Coded Facts
facts_code =
    code_by (ℕ × (List Pair × List Constraint)) (coded× coded_ℕ (coded× pairs_code constraints_code))
    (λ k. (k.count, (k.pairs, k.given))) (λ t. record { count = t.0; pairs = t.1.0; given = t.1.1 }) (λ _. refl)

-- the closure is that of the declared pairs and the numbered constraints
pub record IsKnown (count : ℕ) (pairs : List Pair) (given : List Constraint) (closure : Edges) : Type 0 where
  pub few : count + most_variables ≤ most_numbers
  pub pairs_within : IsWithin count pairs
  pub given_valid : AreValid count given
  pub is : closure ≡ record { size = count + most_variables; pairs = pairs ++ map (numbered count) given }
