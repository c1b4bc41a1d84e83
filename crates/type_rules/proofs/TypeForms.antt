-- Types are the same or not, and have a form or not.
use Rattle.std.proofs.Common.{◌≡◌, ◌≢◌, ℕ, ◌<◌, ◌≤◌, List, [], ◌∷◌, refl, ap, ap₂, ◌⊎◌, inl, inr, arith}
use Rattle.std.specs.List.{All, Contains}
use Rattle.std.proofs.lemmas.Bool.Decides.{leb_tells, eqb_tells}
use Rattle.std.proofs.lemmas.List.Elements.{All-nil, All-cons}
use Rattle.priml_syntax.specs.Tree.{Type', unit, bool, int, pair, sum, thread}
use Rattle.priml_syntax.specs.declared.prio.Prio.{Prio}
use Rattle.constraint_proof.proofs.Decided.{same_prio_or_not, later}
use Rattle.type_rules.specs.Nodes.{IsSum}

pub at_most_or_more : (a b : ℕ) → (a ≤ b) ⊎ (b < a)
at_most_or_more a b = elim (leb_tells a b) [ inl e ↦ inl e.1 | inr e ↦ inr e.1 ]

pub same_number_or_not : (a b : ℕ) → (a ≡ b) ⊎ (a ≢ b)
same_number_or_not a b = elim (eqb_tells a b) [ inl e ↦ inl e.1 | inr e ↦ inr e.1 ]

pub both_or_either : {P Q : Type 0} → P ⊎ (P → ⊥) → Q ⊎ (Q → ⊥) → (P × Q) ⊎ ((P → ⊥) ⊎ (Q → ⊥))
both_or_either (inl p) (inl q) = inl (p, q)
both_or_either (inr n) q = inr (inl n)
both_or_either (inl p) (inr n) = inr (inr n)

pub same_type_or_not : (A B : Type') → (A ≡ B) ⊎ (A ≢ B)
same_type_or_not unit unit = inl refl
same_type_or_not bool bool = inl refl
same_type_or_not int int = inl refl
same_type_or_not (pair a b) (pair c d) =
    elim (both_or_either (same_type_or_not a c) (same_type_or_not b d)) [
      | inl h ↦ inl (ap₂ pair h.0 h.1)
      | inr (inl n) ↦ inr (λ e. n (let k : a ≡ c = cc in k))
      | inr (inr n) ↦ inr (λ e. n (let k : b ≡ d = cc in k))
    ]
same_type_or_not (sum a b) (sum c d) =
    elim (both_or_either (same_type_or_not a c) (same_type_or_not b d)) [
      | inl h ↦ inl (ap₂ sum h.0 h.1)
      | inr (inl n) ↦ inr (λ e. n (let k : a ≡ c = cc in k))
      | inr (inr n) ↦ inr (λ e. n (let k : b ≡ d = cc in k))
    ]
same_type_or_not (thread p a) (thread q b) =
    elim (both_or_either (same_prio_or_not p q) (same_type_or_not a b)) [
      | inl h ↦ inl (ap₂ thread h.0 h.1)
      | inr (inl n) ↦ inr (λ e. n (let k : p ≡ q = cc in k))
      | inr (inr n) ↦ inr (λ e. n (let k : a ≡ b = cc in k))
    ]
same_type_or_not A B = inr (λ e. cc)

pub same_types_or_not : (As Bs : List Type') → (As ≡ Bs) ⊎ (As ≢ Bs)
same_types_or_not [] [] = inl refl
same_types_or_not (A ∷ As) (B ∷ Bs) =
    elim (both_or_either (same_type_or_not A B) (same_types_or_not As Bs)) [
      | inl h ↦ inl (ap₂ (◌∷◌) h.0 h.1)
      | inr (inl n) ↦ inr (λ e. n (let k : A ≡ B = cc in k))
      | inr (inr n) ↦ inr (λ e. n (let k : As ≡ Bs = cc in k))
    ]
same_types_or_not As Bs = inr (λ e. cc)

pub pair_or_not : (A : Type') → ((B : Type') × (C : Type') × (A ≡ pair B C)) ⊎ ((B C : Type') → A ≢ pair B C)
pair_or_not (pair a b) = inl (a, b, refl)
pair_or_not A = inr (λ B C e. cc)

pub sum_or_not : (A : Type') → IsSum A ⊎ (IsSum A → ⊥)
sum_or_not (sum a b) = inl (a, b, refl)
sum_or_not A = inr (λ h. let e = h.2 in cc)

pub thread_or_not : (A : Type') → ((q : Prio) × (B : Type') × (A ≡ thread q B)) ⊎ ((q : Prio) (B : Type') → A ≢ thread q B)
thread_or_not (thread q a) = inl (q, a, refl)
thread_or_not A = inr (λ q B e. cc)

-- a type is a sum with this left part, and with this right part
pub left_or_not : (S A : Type') → ((B : Type') × (S ≡ sum A B)) ⊎ ((B : Type') → S ≢ sum A B)
left_or_not (sum c d) A = elim (same_type_or_not c A) [ inl e ↦ inl (d, ap (λ x. sum x d) e) | inr n ↦ inr (λ B e. n (let k : c ≡ A = cc in k)) ]
left_or_not S A = inr (λ B e. cc)

pub right_or_not : (S A : Type') → ((B : Type') × (S ≡ sum B A)) ⊎ ((B : Type') → S ≢ sum B A)
right_or_not (sum c d) A = elim (same_type_or_not d A) [ inl e ↦ inl (c, ap (sum c) e) | inr n ↦ inr (λ B e. n (let k : d ≡ A = cc in k)) ]
right_or_not S A = inr (λ B e. cc)

-- each item has the property, or one has not
pub all_or_one : {X : Type 0} (P : X → Type 0) → ((x : X) → P x ⊎ (P x → ⊥)) → (xs : List X) → All P xs ⊎ ((x : X) × Contains xs x × (P x → ⊥))
all_or_one P each [] = inl (All-nil P)
all_or_one {X} P each (x ∷ xs) = go (each x) (all_or_one P each xs) where
  go : P x ⊎ (P x → ⊥) → All P xs ⊎ ((y : X) × Contains xs y × (P y → ⊥)) → All P (x ∷ xs) ⊎ ((y : X) × Contains (x ∷ xs) y × (P y → ⊥))
  go (inr n) rest = inr (x, (0, omega arith, refl), n)
  go (inl h) (inl all) = inl (All-cons P x xs h all)
  go (inl h) (inr bad) = inr (bad.0, later x xs bad.0 bad.1, bad.2)
