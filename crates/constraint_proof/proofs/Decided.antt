-- A constraint is entailed, or it is not.
use Rattle.std.proofs.Common.{◌≡◌, ◌≢◌, zero, suc, List, [], ◌∷◌, refl, ap, subst, ◌⊎◌, inl, inr, arith}
use Rattle.std.specs.List.{Contains}
use Rattle.std.proofs.lemmas.Bool.Decides.{eqb_tells}
use Rattle.priml_syntax.specs.declared.prio.Prio.{Prio}
use Rattle.priml_syntax.specs.declared.prio.Prio.TheVariants.{Const, Var}
use Rattle.priority_order.specs.Order.{Pair}
use Rattle.constraint_proof.specs.Entailed.{Constraint, Entailed, by_declared, by_assumed, by_reflexive, by_transitive}

pub same_prio_or_not : (p q : Prio) → (p ≡ q) ⊎ (p ≢ q)
same_prio_or_not (Const a) (Const b) = elim (eqb_tells a b) [ inl e ↦ inl (ap Const e.1) | inr e ↦ inr (λ h. e.1 (let k : a ≡ b = cc in k)) ]
same_prio_or_not (Const a) (Var b) = inr (λ e. cc)
same_prio_or_not (Var a) (Const b) = inr (λ e. cc)
same_prio_or_not (Var a) (Var b) = elim (eqb_tells a b) [ inl e ↦ inl (ap Var e.1) | inr e ↦ inr (λ h. e.1 (let k : a ≡ b = cc in k)) ]

first_or_later : {A : Type 0} (x : A) (xs : List A) (y : A) → Contains (x ∷ xs) y → (x ≡ y) ⊎ Contains xs y
first_or_later x xs y (zero, lt, e) = inl e
first_or_later x xs y (suc k, lt, e) = inr (k, omega arith, e)

pub later : {A : Type 0} (x : A) (xs : List A) (y : A) → Contains xs y → Contains (x ∷ xs) y
later x xs y (k, lt, e) = (suc k, omega arith, e)

-- p leads to q, perhaps over the step from x to y
abbrev Over : (Prio → Prio → Type 0) → Prio → Prio → Prio → Prio → Type 0
Over R x y p q = R p q ⊎ (R p x × R y q)

module _ (R : Prio → Prio → Type 0) (join : (p q r : Prio) → R p q → R q r → R p r) (x y : Prio) where
  over_joined : (p q r : Prio) → Over R x y p q → Over R x y q r → Over R x y p r
  over_joined p q r (inl h) (inl k) = inl (join p q r h k)
  over_joined p q r (inl h) (inr k) = inr (join p q x h k.0, k.1)
  over_joined p q r (inr h) (inl k) = inr (h.0, join y q r h.1 k)
  over_joined p q r (inr h) (inr k) = inr (h.0, k.1)

  over_or_not : (p q : Prio) → R p q ⊎ (R p q → ⊥) → R p x ⊎ (R p x → ⊥) → R y q ⊎ (R y q → ⊥) → Over R x y p q ⊎ (Over R x y p q → ⊥)
  over_or_not p q (inl h) b c = inl (inl h)
  over_or_not p q (inr n) (inl h) (inl k) = inl (inr (h, k))
  over_or_not p q (inr n) (inr m) c = inr (λ o. elim o [ inl h ↦ n h | inr h ↦ m h.0 ])
  over_or_not p q (inr n) (inl h) (inr m) = inr (λ o. elim o [ inl k ↦ n k | inr k ↦ m k.1 ])

joined : (pairs : List Pair) (given : List Constraint) (p q r : Prio) → Entailed pairs given p q → Entailed pairs given q r → Entailed pairs given p r
joined pairs given p q r h k = by_transitive h k

-- nothing entails that a priority is at most another
entailed-none : {p q : Prio} → Entailed [] [] p q → p ≡ q
entailed-none (by_declared h) = absurd (omega (arith, h.1))
entailed-none (by_assumed h) = absurd (omega (arith, h.1))
entailed-none by_reflexive = refl
entailed-none (by_transitive h k) = let e = entailed-none h in let f = entailed-none k in cc

module _ (pairs : List Pair) (given : List Constraint) where
  -- one constraint more, or one pair more, leads over itself alone
  more_given : (c : Constraint) {p q : Prio} → Entailed pairs (c ∷ given) p q → Over (Entailed pairs given) c.0 c.1 p q
  more_given c (by_declared h) = inl (by_declared h)
  more_given c (by_assumed {p = p} {q = q} h) =
      elim (first_or_later c given (p, q) h) [
        | inl e ↦ inr (subst (λ (d : Constraint). Entailed pairs given d.0 c.0) e by_reflexive, subst (λ (d : Constraint). Entailed pairs given c.1 d.1) e by_reflexive)
        | inr k ↦ inl (by_assumed k)
      ]
  more_given c by_reflexive = inl by_reflexive
  more_given c (by_transitive {p = p} {q = q} {r = r} h k) = over_joined (Entailed pairs given) (joined pairs given) c.0 c.1 p q r (more_given c h) (more_given c k)

  more_pairs : (d : Pair) {p q : Prio} → Entailed (d ∷ pairs) given p q → Over (Entailed pairs given) (Const d.0) (Const d.1) p q
  more_pairs d (by_declared {a = a} {b = b} h) =
      elim (first_or_later d pairs (a, b) h) [
        | inl e ↦ inr (subst (λ (c : Pair). Entailed pairs given (Const c.0) (Const d.0)) e by_reflexive, subst (λ (c : Pair). Entailed pairs given (Const d.1) (Const c.1)) e by_reflexive)
        | inr k ↦ inl (by_declared k)
      ]
  more_pairs d (by_assumed h) = inl (by_assumed h)
  more_pairs d by_reflexive = inl by_reflexive
  more_pairs d (by_transitive {p = p} {q = q} {r = r} h k) = over_joined (Entailed pairs given) (joined pairs given) (Const d.0) (Const d.1) p q r (more_pairs d h) (more_pairs d k)

  wider_given : (c : Constraint) {p q : Prio} → Entailed pairs given p q → Entailed pairs (c ∷ given) p q
  wider_given c (by_declared h) = by_declared h
  wider_given c (by_assumed {p = p} {q = q} h) = by_assumed (later c given (p, q) h)
  wider_given c by_reflexive = by_reflexive
  wider_given c (by_transitive h k) = by_transitive (wider_given c h) (wider_given c k)

  wider_pairs : (d : Pair) {p q : Prio} → Entailed pairs given p q → Entailed (d ∷ pairs) given p q
  wider_pairs d (by_declared {a = a} {b = b} h) = by_declared (later d pairs (a, b) h)
  wider_pairs d (by_assumed h) = by_assumed h
  wider_pairs d by_reflexive = by_reflexive
  wider_pairs d (by_transitive h k) = by_transitive (wider_pairs d h) (wider_pairs d k)

  over_given : (c : Constraint) (p q : Prio) → Over (Entailed pairs given) c.0 c.1 p q → Entailed pairs (c ∷ given) p q
  over_given c p q (inl h) = wider_given c h
  over_given c p q (inr h) = by_transitive (wider_given c h.0) (by_transitive (by_assumed (zero, omega arith, refl)) (wider_given c h.1))

  over_pairs : (d : Pair) (p q : Prio) → Over (Entailed pairs given) (Const d.0) (Const d.1) p q → Entailed (d ∷ pairs) given p q
  over_pairs d p q (inl h) = wider_pairs d h
  over_pairs d p q (inr h) = by_transitive (wider_pairs d h.0) (by_transitive (by_declared (zero, omega arith, refl)) (wider_pairs d h.1))

by_pairs : (pairs : List Pair) (p q : Prio) → Entailed pairs [] p q ⊎ (Entailed pairs [] p q → ⊥)
by_pairs [] p q = elim (same_prio_or_not p q) [ inl e ↦ inl (subst (Entailed [] [] p) e by_reflexive) | inr n ↦ inr (λ h. n (entailed-none h)) ]
by_pairs (d ∷ ds) p q =
    elim (over_or_not (Entailed ds []) (joined ds []) (Const d.0) (Const d.1) p q (by_pairs ds p q) (by_pairs ds p (Const d.0)) (by_pairs ds (Const d.1) q)) [
      | inl h ↦ inl (over_pairs ds [] d p q h)
      | inr n ↦ inr (λ h. n (more_pairs ds [] d h))
    ]

pub entailed_or_not : (pairs : List Pair) (given : List Constraint) (p q : Prio) → Entailed pairs given p q ⊎ (Entailed pairs given p q → ⊥)
entailed_or_not pairs [] p q = by_pairs pairs p q
entailed_or_not pairs (c ∷ given) p q =
    elim (over_or_not (Entailed pairs given) (joined pairs given) c.0 c.1 p q (entailed_or_not pairs given p q) (entailed_or_not pairs given p c.0) (entailed_or_not pairs given c.1 q)) [
      | inl h ↦ inl (over_given pairs given c p q h)
      | inr n ↦ inr (λ h. n (more_given pairs given c h))
    ]
