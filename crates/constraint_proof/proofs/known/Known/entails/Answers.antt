use Rattle.std.proofs.Common.{◌≡◌, refl, subst, inl, inr, IsTrue, Bool, true, false}
use Rattle.constraint_proof.specs.Entailed.{Entailed, by_reflexive}
use Rattle.constraint_proof.proofs.Numbers.{entailed_tells}
use Rattle.constraint_proof.proofs.known.Known.entails.Goals as goal

pub returns-then-same : goal.returns-then-same
returns-then-same c = (λ _. subst (λ x. Entailed c.args.self.now.pairs c.args.self.now.given c.args.p x) (c.same.ensures.0 c.if-same.true) by_reflexive, λ _. refl)

-- a test that answered false does not hold
failed : {P : Type 0} (b : Bool) → b ≡ false → (P → IsTrue b) → P → ⊥
failed b e f p = let z = f p in cc

never : {P Q : Type 0} → (Q → ⊥) → (IsTrue false → P) × (Q → IsTrue false)
never none = (λ h. absurd (let z : false ≡ true = h in cc), λ q. absurd (none q))

pub returns-then-not-knows : goal.returns-then-not-knows
returns-then-not-knows c =
    never (λ h. elim (entailed_tells c.args.self.now.count c.args.self.now.pairs c.args.self.now.given c.knows.ensures.pairs c.knows.ensures.given h) [
      | inl e ↦ failed c.same.result c.if-same.false c.same.ensures.1 e
      | inr v ↦ failed c.knows.result c.if-not-knows.true c.knows.ensures.exact.1 v.0
    ])

pub returns-then-not-knows-2 : goal.returns-then-not-knows-2
returns-then-not-knows-2 c =
    never (λ h. elim (entailed_tells c.args.self.now.count c.args.self.now.pairs c.args.self.now.given c.knows.ensures.pairs c.knows.ensures.given h) [
      | inl e ↦ failed c.same.result c.if-same.false c.same.ensures.1 e
      | inr v ↦ failed c.knows-2.result c.if-not-knows-2.true c.knows-2.ensures.exact.1 v.1
    ])
