use Rattle.std.proofs.Common.{◌↔◌, ◌<◌, length, subst, arith, IsTrue, inl, inr}
use Rattle.std.proofs.lemmas.Bool.Decides.{eqb_tells}
use Rattle.constraint_proof.specs.Steps.{IsAccepted}
use Rattle.constraint_proof.proofs.Sound.{accepted_by_last, accepted_derives}
use Rattle.constraint_proof.proofs.derivation.accepts.Goals as goal

pub returns : goal.returns
returns c =
    let steps = c.as_slice-steps.result.now in
    let some : 0 < length steps = elim (eqb_tells (length steps) 0) [ inl e ↦ absurd (let z = c.if-is_empty.ensures in let y = e.0 in cc) | inr e ↦ (let n = e.1 in omega arith) ] in
    let exact : IsTrue c.concludes.result ↔ IsAccepted c.args.order.now.pairs c.args.given.now c.args.goal c.args.proof.now.steps.items =
    subst (λ xs. IsTrue c.concludes.result ↔ IsAccepted c.args.order.now.pairs c.args.given.now c.args.goal xs) c.as_slice-steps.ensures.value
    (accepted_by_last c.args.order.now.pairs c.args.given.now c.args.goal steps _ some (λ k h. c.loop-i.invariant k (omega (arith, c.loop-i-test.false))) c.concludes.result c.concludes.ensures) in
    record {
      exact = exact;
      sound = λ yes. accepted_derives c.args.order.now.pairs c.args.given.now c.args.goal c.args.proof.now.steps.items (exact.0 yes);
    }
