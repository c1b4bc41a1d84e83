-- The order of waiting is strict and total, and what stands left of a path stands left of what follows it.
use Rattle.std.proofs.Common.{◌≡◌, ℕ, ◌<◌, ◌≤◌, List, [], ◌∷◌, ◌++◌, length, ◌⊎◌, inl, inr, refl, sym, ◌∙◌, ap, ap₂, subst, arith, append_assoc, length-append}
use Rattle.std.proofs.lemmas.Bool.{cases_lt}
use Rattle.priml_syntax.specs.Paths.{child_path, Left, Below, Before}

-- what is left of a path is left of each that goes on from it
pub left_longer : (b q r : List ℕ) → Left b q → Left b (q ++ r)
left_longer [] q r h = absurd h
left_longer (x ∷ b) [] r h = absurd h
left_longer (x ∷ b) (y ∷ q) r h = elim h [ inl a ↦ inl a | inr a ↦ inr (a.0, left_longer b q r a.1) ]

left_extend : (b q r : List ℕ) → Left b q → Left (b ++ r) q
left_extend [] q r h = absurd h
left_extend (x ∷ b) [] r h = absurd h
left_extend (x ∷ b) (y ∷ q) r h = elim h [ inl a ↦ inl a | inr a ↦ inr (a.0, left_extend b q r a.1) ]

-- and what is left of a path that goes on from c is left of each that c is left of
pub left_through : (b c x q : List ℕ) → Left b (c ++ x) → Left c q → Left b q
left_through b [] x q h k = absurd k
left_through b (y ∷ c) x [] h k = absurd k
left_through [] (y ∷ c) x (z ∷ q) h k = absurd h
left_through (w ∷ b) (y ∷ c) x (z ∷ q) h k = go h k (left_through b c x q)
  where
    go : (w < y) ⊎ ((w ≡ y) × Left b (c ++ x)) → (y < z) ⊎ ((y ≡ z) × Left c q) → (Left b (c ++ x) → Left c q → Left b q) → (w < z) ⊎ ((w ≡ z) × Left b q)
    go (inl a) (inl d) f = inl (omega arith)
    go (inl a) (inr d) f = inl (omega (arith, a, d.0))
    go (inr a) (inl d) f = inl (omega (arith, a.0, d))
    go (inr a) (inr d) f = inr (a.0 ∙ d.0, f a.1 d.1)

-- an earlier child is left of a later one
pub left_sibling : (p : List ℕ) (k m : ℕ) → k < m → Left (child_path p k) (child_path p m)
left_sibling [] k m h = inl h
left_sibling (x ∷ p) k m h = inr (refl, left_sibling p k m h)

-- what is left of a path's extension comes before the path
pub before_from_left : (b p r : List ℕ) → Left b (p ++ r) → Before b p
before_from_left [] p r h = absurd (no p r h)
  where
    no : (p r : List ℕ) → Left [] (p ++ r) → ⊥
    no [] [] k = k
    no [] (x ∷ r) k = k
    no (x ∷ p) r k = k
before_from_left (x ∷ b) [] [] h = absurd h
before_from_left (x ∷ b) [] (y ∷ r) h = inr (x, b, refl)
before_from_left (x ∷ b) (y ∷ p) r h = go h (before_from_left b p r)
  where
    go : (x < y) ⊎ ((x ≡ y) × Left b (p ++ r)) → (Left b (p ++ r) → Before b p) → Before (x ∷ b) (y ∷ p)
    go (inl a) f = inl (inl a)
    go (inr a) f = elim (f a.1) [ inl l ↦ inl (inr (a.0, l)) | inr l ↦ inr (l.0, l.1, ap₂ (λ z zs. z ∷ zs) a.0 l.2) ]

left_irreflexive : (p : List ℕ) → Left p p → ⊥
left_irreflexive [] h = h
left_irreflexive (x ∷ p) h = elim h [ inl a ↦ omega (arith, a) | inr a ↦ left_irreflexive p a.1 ]

-- no thread is its own descendant
pub not_below_self : (p : List ℕ) → Below p p → ⊥
not_below_self p h = omega (arith, ap length h.2, length-append p (h.0 ∷ h.1))

-- the order of waiting
pub before_irreflexive : (p : List ℕ) → Before p p → ⊥
before_irreflexive p (inl h) = left_irreflexive p h
before_irreflexive p (inr h) = not_below_self p h

pub before_transitive : (a b c : List ℕ) → Before a b → Before b c → Before a c
before_transitive a b c (inl h) (inl k) = inl (left_through a b [] c (left_longer a b [] h) k)
before_transitive a b c (inl h) (inr k) = before_from_left a c (k.0 ∷ k.1) (subst (λ z. Left a z) k.2 h)
before_transitive a b c (inr h) (inl k) = inl (subst (λ z. Left z c) (sym h.2) (left_extend b c (h.0 ∷ h.1) k))
before_transitive a b c (inr h) (inr k) = inr (k.0, k.1 ++ h.0 ∷ h.1, h.2 ∙ (ap (λ z. z ++ h.0 ∷ h.1) k.2 ∙ append_assoc c (k.0 ∷ k.1) (h.0 ∷ h.1)))

pub before_total : (a b : List ℕ) → (a ≡ b) ⊎ (Before a b ⊎ Before b a)
before_total [] [] = inl refl
before_total [] (y ∷ b) = inr (inr (inr (y, b, refl)))
before_total (x ∷ a) [] = inr (inl (inr (x, a, refl)))
before_total (x ∷ a) (y ∷ b) = elim (cases_lt x y) [ inl l ↦ inr (inl (inl (inl l))) | inr l ↦ second (before_total a b) l ]
  where
    under : x ≡ y → (a ≡ b) ⊎ (Before a b ⊎ Before b a) → (x ∷ a ≡ y ∷ b) ⊎ (Before (x ∷ a) (y ∷ b) ⊎ Before (y ∷ b) (x ∷ a))
    under q (inl e) = inl (ap₂ (λ z zs. z ∷ zs) q e)
    under q (inr (inl (inl e))) = inr (inl (inl (inr (q, e))))
    under q (inr (inl (inr e))) = inr (inl (inr (e.0, e.1, ap₂ (λ z zs. z ∷ zs) q e.2)))
    under q (inr (inr (inl e))) = inr (inr (inl (inr (sym q, e))))
    under q (inr (inr (inr e))) = inr (inr (inr (e.0, e.1, ap₂ (λ z zs. z ∷ zs) (sym q) e.2)))

    second : (a ≡ b) ⊎ (Before a b ⊎ Before b a) → y ≤ x → (x ∷ a ≡ y ∷ b) ⊎ (Before (x ∷ a) (y ∷ b) ⊎ Before (y ∷ b) (x ∷ a))
    second f l = elim (cases_lt y x) [ inl k ↦ inr (inr (inl (inl k))) | inr k ↦ under (omega arith) f ]
