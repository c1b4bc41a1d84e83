-- What one more pair adds to the order.
use Rattle.std.proofs.Common.{◌≡◌, ℕ, List, [], ◌∷◌, ◌++◌, refl, sym, ap, ◌∙◌, subst, ◌⊎◌, inl, inr, arith}
use Rattle.std.proofs.lemmas.List.Elements.{Contains-push, Contains-push_cases, Contains-append_left}
use Rattle.std.specs.List.{Contains}
use Rattle.priority_order.specs.Order.{Pair, IsChain, AtMost}

pub same_at : (ps : List Pair) (a b : ℕ) → a ≡ b → AtMost ps a b
same_at ps a b e = record { path = []; leads = e }

pub reflexive : (ps : List Pair) (a : ℕ) → AtMost ps a a
reflexive ps a = record { path = []; leads = refl }

append_leads : (ps : List Pair) (a : ℕ) (path : List Pair) (b : ℕ) (more : List Pair) (c : ℕ) → IsChain ps a path b → IsChain ps b more c → IsChain ps a (path ++ more) c
append_leads ps a [] b more c e h = subst (λ x. IsChain ps x more c) (sym e) h
append_leads ps a (p ∷ path) b more c l h = (l.0, l.1, append_leads ps p.1 path b more c l.2 h)

pub transitive : (ps : List Pair) (a b c : ℕ) → AtMost ps a b → AtMost ps b c → AtMost ps a c
transitive ps a b c x y = record { path = x.path ++ y.path; leads = append_leads ps a x.path b y.path c x.leads y.leads }

pub declared : (ps : List Pair) (a b : ℕ) → Contains ps (a, b) → AtMost ps a b
declared ps a b h = record { path = (a, b) ∷ []; leads = (h, refl, refl) }

more_leads : (ps qs : List Pair) → ((p : Pair) → Contains ps p → Contains qs p) → (a : ℕ) (path : List Pair) (b : ℕ) → IsChain ps a path b → IsChain qs a path b
more_leads ps qs f a [] b e = e
more_leads ps qs f a (p ∷ path) b l = (f p l.0, l.1, more_leads ps qs f p.1 path b l.2)

pub wider : (ps qs : List Pair) → ((p : Pair) → Contains ps p → Contains qs p) → (a b : ℕ) → AtMost ps a b → AtMost qs a b
wider ps qs f a b x = record { path = x.path; leads = more_leads ps qs f a x.path b x.leads }

-- an old path, or one through the new pair
abbrev pub Pushed : List Pair → Pair → ℕ → ℕ → Type 0
Pushed ps p x y = AtMost ps x y ⊎ (AtMost ps x p.0 × AtMost ps p.1 y)

pushed_step : (ps : List Pair) (p q : Pair) (x y : ℕ) → Contains ps q ⊎ (p ≡ q) → q.0 ≡ x → Pushed ps p q.1 y → Pushed ps p x y
pushed_step ps p q x y (inl h) e (inl r) = inl (transitive ps x q.1 y (record { path = q ∷ []; leads = (h, e, refl) }) r)
pushed_step ps p q x y (inl h) e (inr r) = inr (transitive ps x q.1 p.0 (record { path = q ∷ []; leads = (h, e, refl) }) r.0, r.1)
pushed_step ps p q x y (inr is) e (inl r) = inr (same_at ps x p.0 (sym e ∙ ap (λ (z : Pair). z.0) (sym is)), subst (λ (z : Pair). AtMost ps z.1 y) (sym is) r)
pushed_step ps p q x y (inr is) e (inr r) = inr (same_at ps x p.0 (sym e ∙ ap (λ (z : Pair). z.0) (sym is)), r.1)

pushed_leads : (ps : List Pair) (p : Pair) (x : ℕ) (path : List Pair) (y : ℕ) → IsChain (ps ++ p ∷ []) x path y → Pushed ps p x y
pushed_leads ps p x [] y e = inl (same_at ps x y e)
pushed_leads ps p x (q ∷ path) y l = pushed_step ps p q x y (Contains-push_cases ps p q l.0) l.1 (pushed_leads ps p q.1 path y l.2)

pub pushed_from : (ps : List Pair) (p : Pair) (x y : ℕ) → AtMost (ps ++ p ∷ []) x y → Pushed ps p x y
pushed_from ps p x y h = pushed_leads ps p x h.path y h.leads

old : (ps : List Pair) (p : Pair) (x y : ℕ) → AtMost ps x y → AtMost (ps ++ p ∷ []) x y
old ps p x y h = wider ps (ps ++ p ∷ []) (λ q. Contains-append_left ps (p ∷ []) q) x y h

pub pushed_to : (ps : List Pair) (p : Pair) (x y : ℕ) → Pushed ps p x y → AtMost (ps ++ p ∷ []) x y
pushed_to ps p x y (inl h) = old ps p x y h
pushed_to ps p x y (inr h) =
    transitive (ps ++ p ∷ []) x p.0 y (old ps p x p.0 h.0)
    (transitive (ps ++ p ∷ []) p.0 p.1 y (declared (ps ++ p ∷ []) p.0 p.1 (Contains-push ps p)) (old ps p p.1 y h.1))

-- the order stays antisymmetric where the new pair closes no cycle
abbrev pub IsAntisymmetric : List Pair → Type 0
IsAntisymmetric ps = (a b : ℕ) → AtMost ps a b → AtMost ps b a → a ≡ b

push_both : (ps : List Pair) (p : Pair) → IsAntisymmetric ps → (AtMost ps p.1 p.0 → ⊥) → (a b : ℕ) → Pushed ps p a b → Pushed ps p b a → a ≡ b
push_both ps p anti open_ a b (inl x) (inl y) = anti a b x y
push_both ps p anti open_ a b (inl x) (inr y) = absurd (open_ (transitive ps p.1 a p.0 y.1 (transitive ps a b p.0 x y.0)))
push_both ps p anti open_ a b (inr x) (inl y) = absurd (open_ (transitive ps p.1 b p.0 x.1 (transitive ps b a p.0 y x.0)))
push_both ps p anti open_ a b (inr x) (inr y) = absurd (open_ (transitive ps p.1 b p.0 x.1 y.0))

pub antisymmetric-push : (ps : List Pair) (p : Pair) → IsAntisymmetric ps → (AtMost ps p.1 p.0 → ⊥) → IsAntisymmetric (ps ++ p ∷ [])
antisymmetric-push ps p anti open_ a b x y = push_both ps p anti open_ a b (pushed_from ps p a b x) (pushed_from ps p b a y)

empty_leads : (a : ℕ) (path : List Pair) (b : ℕ) → IsChain [] a path b → a ≡ b
empty_leads a [] b e = e
empty_leads a (p ∷ path) b l = absurd (omega (arith, l.0.1))

pub at_most-none : (a b : ℕ) → AtMost [] a b → a ≡ b
at_most-none a b h = empty_leads a h.path b h.leads
