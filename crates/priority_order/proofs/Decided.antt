-- Each of these facts holds or does not.
use Rattle.std.proofs.Common.{◌≡◌, ◌≢◌, ℕ, Bool, true, false, List, [], ◌∷◌, ◌++◌, refl, sym, subst, ◌⊎◌, inl, inr, Decides}
use Rattle.std.specs.List.{Contains, list_any}
use Rattle.std.proofs.Math.Dec.{eqb}
use Rattle.std.proofs.lemmas.Bool.{false≢true}
use Rattle.std.proofs.lemmas.Bool.Decides.{eqb_tells, Decides-eqb}
use Rattle.std.proofs.lemmas.List.{append-nil, append_assoc}
use Rattle.std.proofs.lemmas.Map.Made.{is_member-Decides}
use Rattle.priority_order.specs.Order.{Pair, AtMost, IsBelow}
use Rattle.priority_order.proofs.Paths.{same_at, at_most-none, pushed_from, pushed_to}

-- a test that answered false does not hold
pub failed : {P : Type 0} → (b : Bool) → b ≡ false → (P → b ≡ true) → P → ⊥
failed b e f p = let z = f p in cc

tells : {P : Type 0} → (r : Bool) → Decides r P → P ⊎ (P → ⊥)
tells true d = inl (d.0 refl)
tells false d = inr (λ p. absurd (false≢true (d.1 p)))

pub has : (xs : List ℕ) (a : ℕ) → Decides (list_any (eqb a) xs) (Contains xs a)
has xs a = is_member-Decides Decides-eqb xs a

pub contains_or_not : (xs : List ℕ) (a : ℕ) → Contains xs a ⊎ (Contains xs a → ⊥)
contains_or_not xs a = tells (list_any (eqb a) xs) (has xs a)

-- for each two numbers, whether the one is at most the other
abbrev pub Tells : List Pair → Type 0
Tells ps = (a b : ℕ) → AtMost ps a b ⊎ (AtMost ps a b → ⊥)

tells-none : Tells []
tells-none a b = elim (eqb_tells a b) [ inl e ↦ inl (same_at [] a b e.1) | inr e ↦ inr (λ h. e.1 (at_most-none a b h)) ]

neither : (ps : List Pair) (p : Pair) (a b : ℕ) → (AtMost ps a b → ⊥) → (AtMost ps a p.0 → AtMost ps p.1 b → ⊥) → AtMost (ps ++ p ∷ []) a b → ⊥
neither ps p a b old new h = elim (pushed_from ps p a b h) [ inl k ↦ old k | inr k ↦ new k.0 k.1 ]

pushed_or_not : (ps : List Pair) (p : Pair) (a b : ℕ) → AtMost ps a b ⊎ (AtMost ps a b → ⊥) → AtMost ps a p.0 ⊎ (AtMost ps a p.0 → ⊥) → AtMost ps p.1 b ⊎ (AtMost ps p.1 b → ⊥) → AtMost (ps ++ p ∷ []) a b ⊎ (AtMost (ps ++ p ∷ []) a b → ⊥)
pushed_or_not ps p a b (inl x) y z = inl (pushed_to ps p a b (inl x))
pushed_or_not ps p a b (inr x) (inl y) (inl z) = inl (pushed_to ps p a b (inr (y, z)))
pushed_or_not ps p a b (inr x) (inl y) (inr z) = inr (neither ps p a b x (λ _ k. z k))
pushed_or_not ps p a b (inr x) (inr y) z = inr (neither ps p a b x (λ k _. y k))

tells_from : (done todo : List Pair) → Tells done → Tells (done ++ todo)
tells_from done [] t = subst Tells (sym (append-nil done)) t
tells_from done (p ∷ todo) t =
    subst Tells (append_assoc done (p ∷ []) todo)
    (tells_from (done ++ p ∷ []) todo (λ a b. pushed_or_not done p a b (t a b) (t a p.0) (t p.1 b)))

pub at_most_or_not : (ps : List Pair) → Tells ps
at_most_or_not ps = tells_from [] ps tells-none

pub below_or_not : (ps : List Pair) (a b : ℕ) → IsBelow ps a b ⊎ (IsBelow ps a b → ⊥)
below_or_not ps a b = by_cases (at_most_or_not ps a b) (eqb_tells a b)
  where
    by_cases : AtMost ps a b ⊎ (AtMost ps a b → ⊥) → ((eqb a b ≡ true) × (a ≡ b)) ⊎ ((eqb a b ≡ false) × (a ≢ b)) → IsBelow ps a b ⊎ (IsBelow ps a b → ⊥)
    by_cases x (inl e) = inr (λ h. h.differ e.1)
    by_cases (inl x) (inr e) = inl (record { at_most = x; differ = e.1 })
    by_cases (inr x) (inr e) = inr (λ h. x h.at_most)
