-- An accepted derivation derives its goal.
use Rattle.std.proofs.Common.{◌≡◌, ◌↔◌, Bool, IsTrue, ℕ, zero, suc, ◌-◌, ◌<◌, List, length, take, get_or, sym, ap, ◌∙◌, subst, arith}
use Rattle.std.specs.Prelude.{slice_get, Some}
use Rattle.std.proofs.lemmas.Option.{slice_get-get_or, get_or_from_slice_get, slice_get_within}
use Rattle.std.proofs.lemmas.List.{length-take, get_or-take}
use Rattle.priml_syntax.specs.declared.prio.Prio.{Prio}
use Rattle.priml_syntax.specs.declared.prio.Prio.TheVariants.{Const}
use Rattle.priority_order.specs.Order.{Pair}
use Rattle.priority_order.proofs.Lists.{contains_at}
use Rattle.constraint_proof.specs.declared.derivation.Rule.{Rule}
use Rattle.constraint_proof.specs.declared.derivation.Rule.TheVariants.{Declared, Assumed, Reflexive, Transitive}
use Rattle.constraint_proof.specs.declared.derivation.Step.{Step}
use Rattle.constraint_proof.specs.Entailed.{Constraint, Entailed, by_declared, by_assumed, by_reflexive, by_transitive}
use Rattle.constraint_proof.specs.Steps.{RuleFits, StepFits, IsAccepted}

module _ (pairs : List Pair) (given : List Constraint) where
  abbrev Derived : Step → Type 0
  Derived s = Entailed pairs given s.left s.right

  rule_derives : (before : List Step) (rule : Rule) (p q : Prio) → ((i : ℕ) (s : Step) → slice_get before i ≡ Some s → Derived s) → RuleFits pairs given before rule p q → Entailed pairs given p q
  rule_derives before (Declared i) p q h f = subst (λ x. Entailed pairs given x q) (sym f.3) (subst (λ y. Entailed pairs given (Const f.0) y) (sym f.4) (by_declared (contains_at pairs i (f.0, f.1) f.2)))
  rule_derives before (Assumed i) p q h f = by_assumed (contains_at given i (p, q) f)
  rule_derives before Reflexive p q h f = subst (λ x. Entailed pairs given p x) f by_reflexive
  rule_derives before (Transitive i j) p q h f =
      subst (λ x. Entailed pairs given x q) f.4 (subst (λ y. Entailed pairs given f.0.left y) f.6
      (by_transitive (subst (λ m. Entailed pairs given f.0.left m) f.5 (h i f.0 f.2)) (h j f.1 f.3)))

  -- a list of steps that fit, by its last
  pub accepted_by_last : (goal : Constraint) (steps : List Step) (d : Step) → 0 < length steps → ((k : ℕ) → k < length steps → (s : Step) → slice_get steps k ≡ Some s → StepFits pairs given (take k steps) s) → (test : Bool) → IsTrue test ↔ (((get_or steps (length steps - 1) d).left ≡ goal.0) × ((get_or steps (length steps - 1) d).right ≡ goal.1)) → IsTrue test ↔ IsAccepted pairs given goal steps
  accepted_by_last goal steps d some each test tells = (to, from)
    where
      end : slice_get steps (length steps - 1) ≡ Some (get_or steps (length steps - 1) d)
      end = slice_get-get_or steps (length steps - 1) d (omega arith)

      to : IsTrue test → IsAccepted pairs given goal steps
      to h = let g = tells.0 h in record {
        each = λ k s e. each k (slice_get_within steps k s e) s e;
        last = get_or steps (length steps - 1) d;
        is = end;
        left = g.0;
        right = g.1;
      }

      from : IsAccepted pairs given goal steps → IsTrue test
      from a =
          let same : a.last ≡ get_or steps (length steps - 1) d = sym (get_or_from_slice_get steps (length steps - 1) a.last d a.is) in
          tells.1 (ap (λ (s : Step). s.left) (sym same) ∙ a.left, ap (λ (s : Step). s.right) (sym same) ∙ a.right)

  -- an accepted derivation derives its goal
  steps_derive : (steps : List Step) → ((k : ℕ) (s : Step) → slice_get steps k ≡ Some s → StepFits pairs given (take k steps) s) → (n : ℕ) → (k : ℕ) → k < n → (s : Step) → slice_get steps k ≡ Some s → Derived s
  steps_derive steps each zero k lt s e = absurd (omega arith)
  steps_derive steps each (suc n) k lt s e = rule_derives (take k steps) s.rule s.left s.right (λ i t f. steps_derive steps each n i (before i t f) t (taken i t f)) (each k s e)
    where
      before : (i : ℕ) (t : Step) → slice_get (take k steps) i ≡ Some t → i < n
      before i t f = omega (arith, slice_get_within (take k steps) i t f, length-take k steps)

      taken : (i : ℕ) (t : Step) → slice_get (take k steps) i ≡ Some t → slice_get steps i ≡ Some t
      taken i t f =
          let within = slice_get_within (take k steps) i t f in
          let lt : i < k = omega (arith, length-take k steps) in
          let in_ : i < length steps = omega (arith, length-take k steps) in
          slice_get-get_or steps i t in_ ∙ ap Some (sym (get_or-take k steps i t lt) ∙ get_or_from_slice_get (take k steps) i t t f)

  pub accepted_derives : (goal : Constraint) (steps : List Step) → IsAccepted pairs given goal steps → Entailed pairs given goal.0 goal.1
  accepted_derives goal steps a =
      subst (λ p. Entailed pairs given p goal.1) a.left (subst (λ q. Entailed pairs given a.last.left q) a.right
      (steps_derive steps a.each (length steps) (length steps - 1) (omega (arith, slice_get_within steps (length steps - 1) a.last a.is)) a.last a.is))
