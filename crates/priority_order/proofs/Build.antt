-- What holds of the pairs so far while an order is built.
use Rattle.std.proofs.Common.{◌≡◌, ℕ, ◌+◌, ◌<◌, ◌≤◌, List, [], length, get_or, take, sym, ◌∙◌, subst, inl, inr, arith}
use Rattle.std.specs.List.{Contains}
use Rattle.std.proofs.lemmas.List.{take_more, take-append-drop, take_all}
use Rattle.std.proofs.lemmas.List.Elements.{Contains-append_left}
use Rattle.std.proofs.lemmas.Option.{slice_get-get_or, get_or_from_slice_get, slice_get_within}
use Rattle.std.proofs.lemmas.Bool.Decides.{eqb_tells}
use Rattle.priority_order.specs.Order.{Pair, AtMost, IsLawful, Closes}
use Rattle.priority_order.proofs.Paths.{IsAntisymmetric, antisymmetric-push, at_most-none, reflexive, declared, wider}

pub antisymmetric-none : IsAntisymmetric []
antisymmetric-none a b h k = at_most-none a b h

pub antisymmetric-more : (ps : List Pair) (i : ℕ) (d : Pair) → i < length ps → IsAntisymmetric (take i ps) → (AtMost (take i ps) (get_or ps i d).1 (get_or ps i d).0 → ⊥) → IsAntisymmetric (take (i + 1) ps)
antisymmetric-more ps i d h anti open_ = subst IsAntisymmetric (sym (take_more ps i d h)) (antisymmetric-push (take i ps) (get_or ps i d) anti open_)

pub closes : (ps : List Pair) (i : ℕ) (d : Pair) → i < length ps → AtMost (take i ps) (get_or ps i d).1 (get_or ps i d).0 → Closes ps i
closes ps i d h back = record { pair = get_or ps i d; is = slice_get-get_or ps i d h; back = back }

pub open_at : (ps : List Pair) (i : ℕ) (d : Pair) → (AtMost (take i ps) (get_or ps i d).1 (get_or ps i d).0 → ⊥) → Closes ps i → ⊥
open_at ps i d none c = none (subst (λ (q : Pair). AtMost (take i ps) q.1 q.0) (sym (get_or_from_slice_get ps i c.pair d c.is)) c.back)

pub lawful : (ps : List Pair) → IsAntisymmetric ps → ((j : ℕ) → j < length ps → Closes ps j → ⊥) → IsLawful ps
lawful ps anti none = record {
  antisymmetric = λ a b h back. h.differ (anti a b h.at_most back);
  irreflexive = λ a h. none h.0 h.1 (closes ps h.0 (a, a) h.1 (subst (λ (q : Pair). AtMost (take h.0 ps) q.1 q.0) (sym h.2) (reflexive (take h.0 ps) a)));
}

taken : (ps : List Pair) (i : ℕ) (p : Pair) → Contains (take i ps) p → Contains ps p
taken ps i p h = subst (λ qs. Contains qs p) (take-append-drop i ps) (Contains-append_left (take i ps) _ p h)

pub unlawful : (ps : List Pair) (i : ℕ) → Closes ps i → IsLawful ps → ⊥
unlawful ps i c law = elim (eqb_tells c.pair.0 c.pair.1) [
  | inl e ↦ law.irreflexive c.pair.0 (subst (λ q. Contains ps (c.pair.0, q)) (sym e.1) contained)
  | inr e ↦ law.antisymmetric c.pair.0 c.pair.1 (record { at_most = declared ps c.pair.0 c.pair.1 contained; differ = e.1 }) (wider (take i ps) ps (taken ps i) c.pair.1 c.pair.0 c.back)
]
  where
    contained : Contains ps c.pair
    contained = (i, slice_get_within ps i c.pair c.is, get_or_from_slice_get ps i c.pair c.pair c.is)

-- all pairs, where the loop is over
pub taken_all : (ps : List Pair) (i : ℕ) → length ps ≤ i → i ≤ length ps → take i ps ≡ ps
taken_all ps i h k = take_all i ps h

-- a closure that took all pairs, none of which closes a cycle
pub all_lawful : (ps qs : List Pair) (i : ℕ) → qs ≡ take i ps → length ps ≤ i → i ≤ length ps → IsAntisymmetric (take i ps) → ((j : ℕ) → j < i → Closes ps j → ⊥) → (qs ≡ ps) × IsLawful ps
all_lawful ps qs i e h k anti none =
    let all = taken_all ps i h k in
    (e ∙ all, lawful ps (subst IsAntisymmetric all anti) (λ j l. none j (omega arith)))
