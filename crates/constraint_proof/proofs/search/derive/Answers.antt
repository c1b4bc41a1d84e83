use Rattle.std.proofs.Common.{◌≡◌, ◌∙◌, ◌+◌, true, false, None, [], length, sym, ap, subst}
use Rattle.std.proofs.Math.ListN.{replicate}
use Rattle.constraint_proof.specs.Entailed.{Entailed, by_reflexive, most_variables}
use Rattle.constraint_proof.specs.Numbers.{number}
use Rattle.constraint_proof.specs.Inside.Search.{IsSearch, Kept}
use Rattle.constraint_proof.proofs.Steps.{reflexive_accepted, started, found_accepted, found_exact, found_short}
use Rattle.constraint_proof.proofs.search.derive.Goals as goal

pub returns-then-same-clause-some : goal.returns-then-same-clause-some
returns-then-same-clause-some c =
    reflexive_accepted c.args.order.now.pairs c.args.given.now c.args.goal.0 c.args.goal.1 (c.same.ensures.0 c.if-same.true) c.in_ok-reflexive.field-0.steps.items c.in_ok-reflexive.ensures

pub returns-then-same-clause-none : goal.returns-then-same-clause-none
returns-then-same-clause-none c = (
  λ e. absurd (let z : true ≡ false = e in cc),
  λ h. absurd (h (subst (λ q. Entailed c.args.order.now.pairs c.args.given.now c.args.goal.0 q) (c.same.ensures.0 c.if-same.true) by_reflexive)),
)

pub run-requires-clause-search : goal.run-requires-clause-search
run-requires-clause-search c =
    let ps = c.args.order.now.pairs in
    let given = c.args.given.now in
    let n = length c.args.order.now.names in
    let reached : c.in_ok-search.search.reached.items ≡ replicate (n + most_variables) None = c.in_ok-search.ensures.reached ∙ ap (λ k. replicate (k + most_variables) None) c.count-count.ensures.value in
    subst (λ xs. IsSearch ps given c.args.goal.0 n xs c.in_ok-search.search.reached.items) (sym c.in_ok-search.ensures.steps)
    (subst (λ t. IsSearch ps given c.args.goal.0 n [] t) (sym reached) (started ps given c.args.goal.0 n))

pub returns-clause-some : goal.returns-clause-some
returns-clause-some c =
    found_accepted c.args.order.now.pairs c.args.given.now c.args.goal.0 _ _ _ c.in_ok-run.ensures.search c.args.goal.1 c.requires.right c.derivation_of.result
    (subst (λ k. Kept c.run.new.self.steps.items c.run.new.self.reached.items k c.derivation_of.result) (c.number_of.ensures ∙ ap (λ k. number k c.args.goal.1) c.count-count.ensures.value) c.derivation_of.ensures)

pub returns-clause-none : goal.returns-clause-none
returns-clause-none c =
    found_exact c.args.order.now.pairs c.args.given.now c.args.goal.0 _ _ _ c.in_ok-run.ensures.search c.in_ok-run.ensures.closed c.args.goal.1 c.requires.right
    (λ e. absurd (let s = c.same.ensures.1 e in let f = c.if-same.false in cc)) c.derivation_of.result
    (subst (λ k. Kept c.run.new.self.steps.items c.run.new.self.reached.items k c.derivation_of.result) (c.number_of.ensures ∙ ap (λ k. number k c.args.goal.1) c.count-count.ensures.value) c.derivation_of.ensures)

pub returns-clause-short : goal.returns-clause-short
returns-clause-short c =
    found_short c.args.order.now.pairs c.args.given.now c.args.goal.0 (length c.args.order.now.names) c.run.new.self.steps.items c.run.new.self.reached.items c.in_ok-run.ensures.search c.number_of.result c.derivation_of.result c.derivation_of.ensures
