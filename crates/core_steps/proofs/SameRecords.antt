-- A job has at most one list of complete records in the order of paths.
use Rattle.std.proofs.Common.{◌≡◌, ℕ, List, [], ◌∷◌, ◌⊎◌, inl, inr, refl, sym, ◌∙◌, ap, subst}
use Rattle.priml_syntax.specs.Values.{Entry}
use Rattle.priml_syntax.specs.Paths.{Precedes}
use Rattle.priml_syntax.specs.Records.{Each, In, InPathOrder}
use Rattle.priml_syntax.proofs.Orders.{irreflexive, transitive}
use Rattle.core_steps.specs.Steps.{Job, Ran}
use Rattle.core_steps.proofs.OneState.{leads, same_end, same_outcome}
use Rattle.core_steps.proofs.Complete.{IsRecord, Complete, found, absorbed}

-- two records of a thread are one
pub same_record : (job : Job) (x y : Entry) → IsRecord job x → IsRecord job y → x.path ≡ y.path → x ≡ y
same_record job x y a b e =
    let d : Ran job y.path x.events a.state = subst (λ p. Ran job p x.events a.state) e a.ran in
    let u : (y.events ≡ x.events) × (b.state ≡ a.state) = same_end x.outcome y.outcome (leads d) b.ran a.ended b.ended in
    let o : x.outcome ≡ y.outcome = same_outcome x.outcome y.outcome (leads d) b.ran a.ended b.ended in
    let q : x.prio ≡ y.prio = sym a.prio ∙ (ap (λ s. s.prio) (sym u.1) ∙ b.prio) in
    λ i. record { path = e i; prio = q i; events = sym u.0 i; outcome = o i }

has_path : (P : List ℕ → Type 0) (rs : List Entry) (p : List ℕ) → Each (λ x. P x.path) rs → In p rs → P p
has_path P rs p a i = let x = found {P = λ r. P r.path} rs p a i in subst P x.1 x.2

same_head : (x y : Entry) (a b : List Entry) → InPathOrder (x ∷ a) → InPathOrder (y ∷ b) → In x.path (y ∷ b) → In y.path (x ∷ a) → x.path ≡ y.path
same_head x y a b s t i j = go i j
  where
    go : (y.path ≡ x.path) ⊎ In x.path b → (x.path ≡ y.path) ⊎ In y.path a → x.path ≡ y.path
    go (inl e) k = sym e
    go (inr e) (inl k) = k
    go (inr e) (inr k) = absurd (irreflexive x.path (transitive x.path y.path x.path (has_path (Precedes x.path) a y.path s.0 k) (has_path (Precedes y.path) b x.path t.0 e)))

in_rest : (x y : Entry) (a b : List Entry) → x.path ≡ y.path → InPathOrder (x ∷ a) → (p : List ℕ) → In p a → In p (y ∷ b) → In p b
in_rest x y a b e s p i j = elim j [ inl k ↦ absurd (irreflexive p (subst (λ z. Precedes z p) (e ∙ k) (has_path (Precedes x.path) a p s.0 i))) | inr k ↦ k ]

same_in_order : (job : Job) (a b : List Entry) → InPathOrder a → InPathOrder b → Each (IsRecord job) a → Each (IsRecord job) b → ((p : List ℕ) → In p a → In p b) → ((p : List ℕ) → In p b → In p a) → a ≡ b
same_in_order job [] [] s t f g i j = refl
same_in_order job [] (y ∷ b) s t f g i j = absurd (j y.path (inl refl))
same_in_order job (x ∷ a) [] s t f g i j = absurd (i x.path (inl refl))
same_in_order job (x ∷ a) (y ∷ b) s t f g i j =
    let e : x.path ≡ y.path = same_head x y a b s t (i x.path (inl refl)) (j y.path (inl refl)) in
    let h : a ≡ b = same_in_order job a b s.1 t.1 f.1 g.1 (λ p k. in_rest x y a b e s p k (i p (inr k))) (λ p k. in_rest y x b a (sym e) t p k (j p (inr k))) in
    let r : x ≡ y = same_record job x y f.0 g.0 e in
    λ n. r n ∷ h n

complete_in : (job : Job) (a b : List Entry) → Complete job a → Complete job b → (p : List ℕ) → In p a → In p b
complete_in job a b c d p i = let x = found a p c.each i in subst (λ q. In q b) x.1 (absorbed b d x.2.ran)

-- complete records in the order of paths are the only ones
pub same_records : (job : Job) (a b : List Entry) → Complete job a → Complete job b → InPathOrder a → InPathOrder b → a ≡ b
same_records job a b c d s t = same_in_order job a b s t c.each d.each (complete_in job a b c d) (complete_in job b a d c)
