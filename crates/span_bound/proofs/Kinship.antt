-- Proper ancestors and descendants, segment by segment.
use Rattle.std.proofs.Common.{◌≡◌, ◌≢◌, ◌↔◌, ℕ, zero, suc, ◌+◌, ◌-◌, ◌<◌, List, [], ◌∷◌, length, get_or, refl, sym, ap, ◌∙◌, subst, inl, inr, arith}
use Rattle.std.specs.List.{Contains}
use Rattle.std.specs.Int.{bit_at}
use Rattle.std.proofs.lemmas.Bool.{cases_lt}
use Rattle.cost_graph.specs.Walks.{ProperlyReaches, HasNoCycle}
use Rattle.cost_graph.specs.Graph.{CostGraph, Edge, IsGraph, vertex_total, parents_at, children_at}
use Rattle.cost_graph.proofs.Above.{proper_first, first_proper, proper_last, last_proper}
use Rattle.cost_graph.proofs.Members.{no_member, member_cons, member_head, member_tail}
use Rattle.cost_graph.proofs.ReadyNext.{child_of, parent_of_child, edge_in}
use Rattle.span_bound.specs.Inside.Words.{HasBit}
use Rattle.span_bound.specs.Inside.Segments.{Follows, IsIn, AreSegmentsOf, images, last_of}

pub in_images : (slots vs : List ℕ) (v : ℕ) → Contains vs v → Contains (images slots vs) (get_or slots v 0)
in_images slots [] v c = absurd (no_member v c)
in_images slots (x ∷ xs) v c = elim (member_cons x xs v c) [
  | inl e ↦ subst (λ y. Contains (images slots (x ∷ xs)) (get_or slots y 0)) e (member_head (get_or slots x 0) (images slots xs))
  | inr late ↦ member_tail (get_or slots x 0) (images slots xs) (get_or slots v 0) (in_images slots xs v late)
]

pub of_images : (slots vs : List ℕ) (m : ℕ) → Contains (images slots vs) m → (v : ℕ) × Contains vs v × (get_or slots v 0 ≡ m)
of_images slots [] m c = absurd (no_member m c)
of_images slots (x ∷ xs) m c = elim (member_cons (get_or slots x 0) (images slots xs) m c) [
  | inl e ↦ (x, member_head x xs, e)
  | inr late ↦ let r = of_images slots xs m late in (r.0, member_tail x xs r.0 r.1, r.2)
]

module _ (g : CostGraph) (heads lens slots : List ℕ) (ok : IsGraph g) (cut : AreSegmentsOf g heads lens slots) where
  pub slot_of_head : (s : ℕ) → s < length heads → get_or slots (get_or heads s 0) 0 ≡ s
  slot_of_head s lt = (cut.own s (get_or heads s 0) lt (omega arith, omega (arith, cut.filled s lt))).1

  pub slot_of_last : (s : ℕ) → s < length heads → get_or slots (last_of heads lens s) 0 ≡ s
  slot_of_last s lt = (cut.own s (last_of heads lens s) lt (omega (arith, cut.filled s lt), omega (arith, cut.filled s lt))).1

  -- a vertex that is not the last of its segment has the next behind it
  pub next_in : (s v : ℕ) → s < length heads → IsIn heads lens s v → v < last_of heads lens s → IsIn heads lens s (v + 1)
  next_in s v lt i less = (omega (arith, i.0), omega (arith, less))

  pub next_follows : (s v : ℕ) → s < length heads → IsIn heads lens s v → v < last_of heads lens s → Follows g (v + 1)
  next_follows s v lt i less = cut.follows s (v + 1) lt (next_in s v lt i less) (omega (arith, i.0))

  back : (v : ℕ) → v + 1 - 1 ≡ v
  back v = omega arith

  pub next_child : (s v c : ℕ) → s < length heads → IsIn heads lens s v → v < last_of heads lens s → Edge g v c → c ≡ v + 1
  next_child s v c lt i less e = (next_follows s v lt i less).child c (subst (λ x. Edge g x c) (sym (back v)) e)

  pub next_edge : (s v : ℕ) → s < length heads → IsIn heads lens s v → v < last_of heads lens s → Edge g v (v + 1)
  next_edge s v lt i less = subst (λ x. Edge g x (v + 1)) (back v) (next_follows s v lt i less).edge

  pub next_parent : (s v p : ℕ) → s < length heads → IsIn heads lens s v → v < last_of heads lens s → Edge g p (v + 1) → p ≡ v
  next_parent s v p lt i less e = (next_follows s v lt i less).parent p e ∙ back v

  -- edges to a segment's first vertex come from the last ones of other segments
  pub parent_is_last : (s p : ℕ) → s < length heads → Edge g p (get_or heads s 0) → last_of heads lens (get_or slots p 0) ≡ p
  parent_is_last s p lt e =
      let p_lt = ok.ends p (get_or heads s 0) e in
      let at = cut.stands p p_lt in
      let t = get_or slots p 0 in
      elim (cases_lt p (last_of heads lens t)) [
        | inl less ↦
            let same = next_child t p (get_or heads s 0) at.0 at.1 less e in
            let in_t = subst (IsIn heads lens t) (sym same) (next_in t p at.0 at.1 less) in
            absurd (omega (arith, cut.earlier s p lt e, (cut.own t (get_or heads s 0) at.0 in_t).1, slot_of_head s lt))
        | inr more ↦ omega (arith, more, at.1.1)
      ]

  -- and lead from a segment's last vertex to the first ones of later segments
  pub child_is_head : (s c : ℕ) → s < length heads → Edge g (last_of heads lens s) c → get_or heads (get_or slots c 0) 0 ≡ c
  child_is_head s c lt e =
      let c_lt = edge_in g (last_of heads lens s) c e in
      let at = cut.stands c c_lt in
      let t = get_or slots c 0 in
      elim (cases_lt (get_or heads t 0) c) [
        | inl more ↦
            let f = cut.follows t c at.0 at.1 more in
            let before : last_of heads lens s ≡ c - 1 = f.parent (last_of heads lens s) e in
            let in_t : IsIn heads lens t (last_of heads lens s) = (omega (arith, before, more), omega (arith, before, more, at.1.1)) in
            let same : t ≡ s = sym (cut.own t (last_of heads lens s) at.0 in_t).1 ∙ slot_of_last s lt in
            let end = subst (λ x. c < get_or heads x 0 + get_or lens x 0) same at.1.1 in
            absurd (omega (arith, before, more, end))
        | inr less ↦ omega (arith, less, at.1.0)
      ]

  pub child_later : (s c : ℕ) → s < length heads → Edge g (last_of heads lens s) c → s < get_or slots c 0
  child_later s c lt e =
      let at = cut.stands c (edge_in g (last_of heads lens s) c e) in
      let h = child_is_head s c lt e in
      let l = cut.earlier (get_or slots c 0) (last_of heads lens s) at.0 (subst (Edge g (last_of heads lens s)) (sym h) e) in
      omega (arith, l, slot_of_last s lt)

  -- the ancestors of a segment's first vertex: each vertex of a segment is one where its last is
  module _ (acyclic : HasNoCycle (Edge g)) (target : ℕ) (first : get_or heads (get_or slots target 0) 0 ≡ target) where
    above_all : (d s v : ℕ) → s < length heads → IsIn heads lens s v → v + d ≡ last_of heads lens s → ProperlyReaches (Edge g) v target ↔ ProperlyReaches (Edge g) (last_of heads lens s) target
    above_all zero s v lt i e = let same : v ≡ last_of heads lens s = omega (arith, e) in (λ h. subst (λ x. ProperlyReaches (Edge g) x target) same h, λ h. subst (λ x. ProperlyReaches (Edge g) x target) (sym same) h)
    above_all (suc d) s v lt i e =
        let less : v < last_of heads lens s = omega (arith, e) in
        let rest = above_all d s (v + 1) lt (next_in s v lt i less) (omega (arith, e)) in
        let not_first : v + 1 ≢ target = λ same.
        let slot : get_or slots target 0 ≡ s = ap (λ x. get_or slots x 0) (sym same) ∙ (cut.own s (v + 1) lt (next_in s v lt i less)).1 in
        let head = ap (λ x. get_or heads x 0) (sym slot) ∙ first in
        omega (arith, head, same, i.0) in (
          λ h.
              let f = proper_first (Edge g) v target h in
              let c_is = next_child s v f.0 lt i less f.1 in
              elim f.2 [
                | inl e' ↦ absurd (not_first (sym c_is ∙ e'))
                | inr p ↦ rest.0 (subst (λ x. ProperlyReaches (Edge g) x target) c_is p)
              ],
          λ h. first_proper (Edge g) acyclic v target (v + 1) (next_edge s v lt i less) (inr (rest.1 h)),
        )

    pub above_same : (s v : ℕ) → s < length heads → IsIn heads lens s v → ProperlyReaches (Edge g) v target ↔ ProperlyReaches (Edge g) (last_of heads lens s) target
    above_same s v lt i = let d : ℕ = last_of heads lens s - v in above_all d s v lt i (omega (arith, i.1))

    pub above_last : (words own : List ℕ) (i s : ℕ) → s < length heads
        → ((x : ℕ) → (bit_at (get_or own x 0) i ≡ 1) ↔ (x ≡ get_or slots target 0))
        → ((v : ℕ) → v < vertex_total g → s < get_or slots v 0 → (bit_at (get_or words (get_or slots v 0) 0) i ≡ 1) ↔ ProperlyReaches (Edge g) v target)
        → HasBit words own (images slots (children_at g (last_of heads lens s))) i ↔ ProperlyReaches (Edge g) (last_of heads lens s) target
    above_last words own i s lt owns right = (to, from)
      where
        to : HasBit words own (images slots (children_at g (last_of heads lens s))) i → ProperlyReaches (Edge g) (last_of heads lens s) target
        to h =
            let c = of_images slots (children_at g (last_of heads lens s)) h.0 h.1 in
            let e = parent_of_child g (last_of heads lens s) c.0 c.1 in
            first_proper (Edge g) acyclic (last_of heads lens s) target c.0 e (elim h.2 [
              | inl o ↦
                  let same = c.2 ∙ (owns h.0).0 o in
                  inl (sym (child_is_head s c.0 lt e) ∙ ap (λ x. get_or heads x 0) same ∙ first)
              | inr w ↦ inr ((right c.0 (edge_in g (last_of heads lens s) c.0 e) (child_later s c.0 lt e)).0 (ap (λ x. bit_at (get_or words x 0) i) c.2 ∙ w))
            ])

        from : ProperlyReaches (Edge g) (last_of heads lens s) target → HasBit words own (images slots (children_at g (last_of heads lens s))) i
        from h =
            let f = proper_first (Edge g) (last_of heads lens s) target h in (
              get_or slots f.0 0,
              in_images slots (children_at g (last_of heads lens s)) f.0 (child_of g (last_of heads lens s) f.0 f.1),
              elim f.2 [
                | inl e ↦ inl ((owns (get_or slots f.0 0)).1 (ap (λ x. get_or slots x 0) e))
                | inr p ↦ inr ((right f.0 (edge_in g (last_of heads lens s) f.0 f.1) (child_later s f.0 lt f.1)).1 p)
              ],
            )

  -- the descendants of a segment's last vertex: each vertex of a segment is one where its first is
  module _ (acyclic : HasNoCycle (Edge g)) (source : ℕ) (last : last_of heads lens (get_or slots source 0) ≡ source) where
    beneath_all : (d s v : ℕ) → s < length heads → IsIn heads lens s v → get_or heads s 0 + d ≡ v → ProperlyReaches (Edge g) source v ↔ ProperlyReaches (Edge g) source (get_or heads s 0)
    beneath_all zero s v lt i e = let same : v ≡ get_or heads s 0 = omega (arith, e) in (λ h. subst (ProperlyReaches (Edge g) source) same h, λ h. subst (ProperlyReaches (Edge g) source) (sym same) h)
    beneath_all (suc d) s v lt i e =
        let u : ℕ = get_or heads s 0 + d in
        let is : u + 1 ≡ v = omega (arith, e) in
        let in_u : IsIn heads lens s u = (omega arith, omega (arith, i.1, is)) in
        let less : u < last_of heads lens s = omega (arith, i.1, is) in
        let rest = beneath_all d s u lt in_u refl in
        let not_last : u ≢ source = λ same.
        let slot : get_or slots source 0 ≡ s = ap (λ x. get_or slots x 0) (sym same) ∙ (cut.own s u lt in_u).1 in
        let end = ap (λ x. last_of heads lens x) (sym slot) ∙ last in
        omega (arith, end, same, less) in (
          λ h.
              let f = proper_last (Edge g) source v h in
              let p_is = next_parent s u f.0 lt in_u less (subst (Edge g f.0) (sym is) f.1) in
              elim f.2 [
                | inl e' ↦ absurd (not_last (sym p_is ∙ e'))
                | inr p ↦ rest.0 (subst (ProperlyReaches (Edge g) source) p_is p)
              ],
          λ h. last_proper (Edge g) acyclic source v u (subst (Edge g u) is (next_edge s u lt in_u less)) (inr (rest.1 h)),
        )

    pub beneath_same : (s v : ℕ) → s < length heads → IsIn heads lens s v → ProperlyReaches (Edge g) source v ↔ ProperlyReaches (Edge g) source (get_or heads s 0)
    beneath_same s v lt i = let d : ℕ = v - get_or heads s 0 in beneath_all d s v lt i (omega (arith, i.0))

    pub beneath_head : (words own : List ℕ) (i s : ℕ) → s < length heads
        → ((x : ℕ) → (bit_at (get_or own x 0) i ≡ 1) ↔ (x ≡ get_or slots source 0))
        → ((v : ℕ) → v < vertex_total g → get_or slots v 0 < s → (bit_at (get_or words (get_or slots v 0) 0) i ≡ 1) ↔ ProperlyReaches (Edge g) source v)
        → HasBit words own (images slots (parents_at g (get_or heads s 0))) i ↔ ProperlyReaches (Edge g) source (get_or heads s 0)
    beneath_head words own i s lt owns right = (to, from)
      where
        to : HasBit words own (images slots (parents_at g (get_or heads s 0))) i → ProperlyReaches (Edge g) source (get_or heads s 0)
        to h =
            let p = of_images slots (parents_at g (get_or heads s 0)) h.0 h.1 in
            last_proper (Edge g) acyclic source (get_or heads s 0) p.0 p.1 (elim h.2 [
              | inl o ↦
                  let same = p.2 ∙ (owns h.0).0 o in
                  inl (sym (parent_is_last s p.0 lt p.1) ∙ ap (λ x. last_of heads lens x) same ∙ last)
              | inr w ↦ inr ((right p.0 (ok.ends p.0 (get_or heads s 0) p.1) (cut.earlier s p.0 lt p.1)).0 (ap (λ x. bit_at (get_or words x 0) i) p.2 ∙ w))
            ])

        from : ProperlyReaches (Edge g) source (get_or heads s 0) → HasBit words own (images slots (parents_at g (get_or heads s 0))) i
        from h =
            let f = proper_last (Edge g) source (get_or heads s 0) h in (
              get_or slots f.0 0,
              in_images slots (parents_at g (get_or heads s 0)) f.0 f.1,
              elim f.2 [
                | inl e ↦ inl ((owns (get_or slots f.0 0)).1 (ap (λ x. get_or slots x 0) e))
                | inr p ↦ inr ((right f.0 (ok.ends f.0 (get_or heads s 0) f.1) (cut.earlier s f.0 lt f.1)).1 p)
              ],
            )
