-- What holds over the order of a program holds over its names and pairs.
use Rattle.std.proofs.Common.{ℕ, List, subst}
use Rattle.priml_syntax.specs.Tree.{Tree, pairs_of}
use Rattle.priority_order.specs.Order.{Names}
use Rattle.type_rules.specs.Stops.{IsOrderOf}

pub over : (p : Tree) (o : Names) → IsOrderOf p o → (P : List (List ℕ) → List (ℕ × ℕ) → Type 0) → P o.names o.pairs → P p.names (pairs_of p)
over p o is P h = subst (λ pairs. P p.names pairs) is.pairs (subst (λ names. P names o.pairs) is.names h)
