use Rattle.std.proofs.Common.{◌≡◌, IsTrue, true, false, arith}
use Rattle.type_rules.proofs.Arguments.{same_at}
use Rattle.type_rules.proofs.Handed.{failed}
use Rattle.type_rules.proofs.call.are_instances.Goals as goal

never : {P : Type 0} → (P → ⊥) → (IsTrue false → P) × (P → IsTrue false)
never none = (λ h. absurd (let z : false ≡ true = h in cc), λ q. absurd (none q))

pub returns-then-not-is : goal.returns-then-not-is
returns-then-not-is c =
    never (λ e. failed c.is.result c.if-not-is.true c.is.ensures.1 (same_at c.args.ps.now c.args.types.now c.args.params.now c.loop-i.i c.index-types-i.result c.index-params-i.result (omega arith) (omega arith) c.index-types-i.is c.index-params-i.is e))
