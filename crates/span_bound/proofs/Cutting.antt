-- The segments of a graph, vertex by vertex of an order.
use Rattle.std.proofs.Common.{◌≡◌, ◌≢◌, ℕ, ◌+◌, ◌-◌, ◌<◌, ◌≤◌, List, [], ◌∷◌, ◌++◌, length, take, get_or, set, refl, sym, ap, ◌∙◌, subst, inl, inr, arith, ◌⊎◌}
use Rattle.std.specs.List.{Contains}
use Rattle.std.proofs.lemmas.Bool.{cases_eq, cases_lt}
use Rattle.std.proofs.lemmas.List.{get_or-set_same, get_or-set_other, length-set, length-append, take_more, get_or_push, get_or_append_left}
use Rattle.std.proofs.lemmas.List.Elements.{Contains-append_left, Contains-append_right, Contains-append_cases}
use Rattle.std.proofs.lemmas.List.Sums.{sum_by-set, sum_by_push, sum_by_more_le}
use Rattle.std.proofs.Math.Seq.{take-length}
use Rattle.std.proofs.lemmas.Map.Made.{is_member-Decides}
use Rattle.std.proofs.lemmas.Map.Steps.{le-length_from_below}
use Rattle.cost_graph.specs.Graph.{CostGraph, vertex_total, Edge}
use Rattle.cost_graph.specs.Order.{IsTopological}
use Rattle.cost_graph.proofs.Above.{order_below, order_short}
use Rattle.cost_graph.proofs.Members.{decides_eq, no_member, member_cons, member_head}
use Rattle.span_bound.specs.Inside.Segments.{Follows, IsIn, AreSegmentsOf, AreSegmentsOfFirst}
use Rattle.span_bound.proofs.Longest.{new_at}

module _ (g : CostGraph) (order heads lens slots : List ℕ) (k : ℕ) (topo : IsTopological g order) (lt : k < length order) (old : AreSegmentsOfFirst g order k heads lens slots) where
  abbrev v : ℕ
  v = get_or order k 0

  cases : (w : ℕ) → Contains (take (k + 1) order) w → Contains (take k order) w ⊎ (get_or order k 0 ≡ w)
  cases w c =
      elim (Contains-append_cases (take k order) (v ∷ []) w (subst (λ l. Contains l w) (take_more order k 0 lt) c)) [
        | inl early ↦ inl early
        | inr late ↦ elim (member_cons v [] w late) [ inl e ↦ inr e | inr z ↦ absurd (no_member w z) ]
      ]

  early : (w : ℕ) → Contains (take k order) w → Contains (take (k + 1) order) w
  early w c = subst (λ l. Contains l w) (sym (take_more order k 0 lt)) (Contains-append_left (take k order) (v ∷ []) w c)

  here : Contains (take (k + 1) order) (get_or order k 0)
  here = subst (λ l. Contains l v) (sym (take_more order k 0 lt)) (Contains-append_right (take k order) (v ∷ []) v (member_head v []))

  other : (w : ℕ) → Contains (take k order) w → w ≢ get_or order k 0
  other w c e = new_at order k topo.once lt (subst (Contains (take k order)) e c)

  pub slot_in : get_or order k 0 < length slots
  slot_in = omega (arith, order_below g order k topo lt, old.covers)

  slot_new : (s : ℕ) → get_or (set slots (get_or order k 0) s) (get_or order k 0) 0 ≡ s
  slot_new s = get_or-set_same slots v s 0 slot_in

  slot_old : (s w : ℕ) → Contains (take k order) w → get_or (set slots (get_or order k 0) s) w 0 ≡ get_or slots w 0
  slot_old s w c = get_or-set_other slots v w s 0 (other w c)

  -- the vertex follows the one before it
  module _ (f : Follows g (get_or order k 0)) where
    abbrev s : ℕ
    s = get_or slots (get_or order k 0 - 1) 0

    before : Contains (take k order) (get_or order k 0 - 1)
    before = topo.after k (v - 1) lt f.edge

    pub slot_small : get_or slots (get_or order k 0 - 1) 0 < length lens
    slot_small = omega (arith, (old.stands (v - 1) before).0, old.long)

    s_in : get_or slots (get_or order k 0 - 1) 0 < length heads
    s_in = (old.stands (v - 1) before).0

    ends : get_or heads (get_or slots (get_or order k 0 - 1) 0) 0 + get_or lens (get_or slots (get_or order k 0 - 1) 0) 0 ≡ get_or order k 0
    ends =
        let at = old.stands (v - 1) before in
        elim (cases_lt v (get_or heads s 0 + get_or lens s 0)) [
          | inl more ↦ absurd (other v (old.own s v s_in (omega (arith, at.1.0, f.some), more)).0 refl)
          | inr less ↦ omega (arith, less, at.1.1, f.some)
        ]

    pub len_small : get_or lens (get_or slots (get_or order k 0 - 1) 0) 0 ≤ k
    len_small = let le = sum_by_more_le (λ n. n) lens s 0 slot_small in omega (arith, le, old.total)

    abbrev new : List ℕ
    new = set lens (get_or slots (get_or order k 0 - 1) 0) (get_or lens (get_or slots (get_or order k 0 - 1) 0) 0 + 1)

    len_new : get_or new s 0 ≡ get_or lens s 0 + 1
    len_new = get_or-set_same lens s (get_or lens s 0 + 1) 0 slot_small

    len_old : (t : ℕ) → t ≢ get_or slots (get_or order k 0 - 1) 0 → get_or new t 0 ≡ get_or lens t 0
    len_old t ne = get_or-set_other lens s t (get_or lens s 0 + 1) 0 ne

    grown : (t w : ℕ) → IsIn heads lens t w → IsIn heads new t w
    grown t w i = elim (cases_eq t s) [
      | inl e ↦ (i.0, let l = ap (λ x. get_or new x 0) e ∙ len_new ∙ ap (λ x. get_or lens x 0 + 1) (sym e) in omega (arith, i.1, l))
      | inr ne ↦ (i.0, omega (arith, i.1, len_old t ne))
    ]

    in_new : (t w : ℕ) → IsIn heads new t w → IsIn heads lens t w ⊎ ((t ≡ get_or slots (get_or order k 0 - 1) 0) × (w ≡ get_or order k 0))
    in_new t w i = elim (cases_eq t s) [
      | inl e ↦
          let l : get_or new t 0 ≡ get_or lens t 0 + 1 = ap (λ x. get_or new x 0) e ∙ len_new ∙ ap (λ x. get_or lens x 0 + 1) (sym e) in
          let end : get_or heads t 0 + get_or lens t 0 ≡ v = ap (λ x. get_or heads x 0 + get_or lens x 0) e ∙ ends in
          elim (cases_eq w v) [
            | inl same ↦ inr (e, same)
            | inr ne ↦ inl (i.0, omega (arith, i.1, l, end, ne))
          ]
      | inr ne ↦ inl (i.0, omega (arith, i.1, len_old t ne))
    ]

    pub extend_on : AreSegmentsOfFirst g order (k + 1) heads (set lens (get_or slots (get_or order k 0 - 1) 0) (get_or lens (get_or slots (get_or order k 0 - 1) 0) 0 + 1)) (set slots (get_or order k 0) (get_or slots (get_or order k 0 - 1) 0))
    extend_on = record {
      long = length-set lens s (get_or lens s 0 + 1) ∙ old.long;
      covers = length-set slots v s ∙ old.covers;
      few = omega (arith, old.few);
      total = let more = sum_by-set (λ n. n) lens s (get_or lens s 0 + 1) 0 slot_small in omega (arith, more, old.total);
      stands = λ w c. elim (cases w c) [
        | inl e ↦
            let o = old.stands w e in
            let same = slot_old s w e in
            (omega (arith, o.0, same), subst (λ t. IsIn heads new t w) (sym same) (grown (get_or slots w 0) w o.1))
        | inr e ↦ subst (λ w. (get_or (set slots v s) w 0 < length heads) × IsIn heads new (get_or (set slots v s) w 0) w) e
            (subst (λ t. (t < length heads) × IsIn heads new t v) (sym (slot_new s)) (s_in, (omega (arith, ends), omega (arith, ends, len_new))))
      ];
      own = λ t w t_in i. elim (in_new t w i) [
        | inl o ↦ let h = old.own t w t_in o in (early w h.0, slot_old s w h.0 ∙ h.1)
        | inr e ↦ (subst (Contains (take (k + 1) order)) (sym e.1) here, ap (λ x. get_or (set slots v s) x 0) e.1 ∙ slot_new s ∙ sym e.0)
      ];
      filled = λ t t_in. elim (cases_eq t s) [
        | inl e ↦ let l = ap (λ x. get_or new x 0) e ∙ len_new in omega (arith, l)
        | inr ne ↦ omega (arith, len_old t ne, old.filled t t_in)
      ];
      follows = λ t w t_in i more. elim (in_new t w i) [
        | inl o ↦ old.follows t w t_in o more
        | inr e ↦ subst (Follows g) (sym e.1) f
      ];
      earlier = λ t p t_in e. let h = old.earlier t p t_in e in (early p h.0, omega (arith, h.1, slot_old s p h.0));
    }

  -- the vertex begins a segment
  abbrev n : ℕ
  n = length heads

  head_old : (t : ℕ) → t < length heads → get_or (heads ++ get_or order k 0 ∷ []) t 0 ≡ get_or heads t 0
  head_old t t_in = get_or_append_left heads (v ∷ []) 0 t t_in

  head_new : get_or (heads ++ get_or order k 0 ∷ []) (length heads) 0 ≡ get_or order k 0
  head_new = get_or_push heads v 0 n refl

  len_kept : (t : ℕ) → t < length heads → get_or (lens ++ 1 ∷ []) t 0 ≡ get_or lens t 0
  len_kept t t_in = get_or_append_left lens (1 ∷ []) 0 t (omega (arith, t_in, old.long))

  len_one : get_or (lens ++ 1 ∷ []) (length heads) 0 ≡ 1
  len_one = get_or_push lens 1 0 n old.long

  longer : length (heads ++ get_or order k 0 ∷ []) ≡ length heads + 1
  longer = length-append heads (v ∷ [])

  is_last : (t : ℕ) → t < length (heads ++ get_or order k 0 ∷ []) → (t < length heads) ⊎ (t ≡ length heads)
  is_last t t_in = elim (cases_lt t n) [ inl less ↦ inl less | inr more ↦ inr (omega (arith, more, t_in, longer)) ]

  in_old : (t w : ℕ) → t < length heads → IsIn (heads ++ get_or order k 0 ∷ []) (lens ++ 1 ∷ []) t w → IsIn heads lens t w
  in_old t w t_in i = (omega (arith, i.0, head_old t t_in), omega (arith, i.1, head_old t t_in, len_kept t t_in))

  in_kept : (t w : ℕ) → t < length heads → IsIn heads lens t w → IsIn (heads ++ get_or order k 0 ∷ []) (lens ++ 1 ∷ []) t w
  in_kept t w t_in i = (omega (arith, i.0, head_old t t_in), omega (arith, i.1, head_old t t_in, len_kept t t_in))

  in_last : (t w : ℕ) → t ≡ length heads → IsIn (heads ++ get_or order k 0 ∷ []) (lens ++ 1 ∷ []) t w → w ≡ get_or order k 0
  in_last t w e i =
      let h = ap (λ x. get_or (heads ++ v ∷ []) x 0) e ∙ head_new in
      let l = ap (λ x. get_or (lens ++ 1 ∷ []) x 0) e ∙ len_one in
      omega (arith, i.0, i.1, h, l)

  pub begin_on : AreSegmentsOfFirst g order (k + 1) (heads ++ get_or order k 0 ∷ []) (lens ++ 1 ∷ []) (set slots (get_or order k 0) (length heads))
  begin_on = record {
    long = length-append lens (1 ∷ []) ∙ ap (λ m. m + 1) old.long ∙ sym longer;
    covers = length-set slots v n ∙ old.covers;
    few = omega (arith, longer, old.few);
    total = sum_by_push (λ m. m) lens 1 ∙ ap (λ m. m + 1) old.total;
    stands = λ w c. elim (cases w c) [
      | inl e ↦
          let o = old.stands w e in
          let same = slot_old n w e in
          (omega (arith, o.0, same, longer), subst (λ t. IsIn (heads ++ v ∷ []) (lens ++ 1 ∷ []) t w) (sym same) (in_kept (get_or slots w 0) w o.0 o.1))
      | inr e ↦ subst (λ w. (get_or (set slots v n) w 0 < length (heads ++ v ∷ [])) × IsIn (heads ++ v ∷ []) (lens ++ 1 ∷ []) (get_or (set slots v n) w 0) w) e
          (subst (λ t. (t < length (heads ++ v ∷ [])) × IsIn (heads ++ v ∷ []) (lens ++ 1 ∷ []) t v) (sym (slot_new n)) (omega (arith, longer), (omega (arith, head_new), omega (arith, head_new, len_one))))
    ];
    own = λ t w t_in i. elim (is_last t t_in) [
      | inl less ↦ let h = old.own t w less (in_old t w less i) in (early w h.0, slot_old n w h.0 ∙ h.1)
      | inr e ↦ let same = in_last t w e i in (subst (Contains (take (k + 1) order)) (sym same) here, ap (λ x. get_or (set slots v n) x 0) same ∙ slot_new n ∙ sym e)
    ];
    filled = λ t t_in. elim (is_last t t_in) [
      | inl less ↦ omega (arith, len_kept t less, old.filled t less)
      | inr e ↦ let l = ap (λ x. get_or (lens ++ 1 ∷ []) x 0) e ∙ len_one in omega (arith, l)
    ];
    follows = λ t w t_in i more. elim (is_last t t_in) [
      | inl less ↦ old.follows t w less (in_old t w less i) (omega (arith, more, head_old t less))
      | inr e ↦ absurd (let same = in_last t w e i in let h = ap (λ x. get_or (heads ++ v ∷ []) x 0) e ∙ head_new in omega (arith, same, h, more))
    ];
    earlier = λ t p t_in e. elim (is_last t t_in) [
      | inl less ↦ let h = old.earlier t p less (subst (Edge g p) (head_old t less) e) in (early p h.0, omega (arith, h.1, slot_old n p h.0))
      | inr last ↦
          let h = ap (λ x. get_or (heads ++ v ∷ []) x 0) last ∙ head_new in
          let c = topo.after k p lt (subst (Edge g p) h e) in
          (early p c, omega (arith, (old.stands p c).0, slot_old n p c, last))
    ];
  }

-- an order has all vertices
whole : (g : CostGraph) (order : List ℕ) → IsTopological g order → length order ≡ vertex_total g
whole g order topo =
    let most = order_short g order topo in
    let least : vertex_total g ≤ length order = le-length_from_below order (vertex_total g) (λ q lt. (is_member-Decides decides_eq order q).1 ((topo.all q).0 lt)) in
    omega (arith, most, least)

pub cut_end : (g : CostGraph) (order heads lens slots : List ℕ) (k : ℕ) → IsTopological g order → k ≡ length order → AreSegmentsOfFirst g order k heads lens slots → AreSegmentsOf g heads lens slots
cut_end g order heads lens slots k topo e now = record {
  long = now.long;
  covers = now.covers;
  few = omega (arith, now.few, e, whole g order topo);
  total = now.total ∙ e ∙ whole g order topo;
  stands = λ v lt. now.stands v (subst (λ l. Contains l v) (sym all) ((topo.all v).0 lt));
  own = λ s v lt i. let h = now.own s v lt i in ((topo.all v).1 (subst (λ l. Contains l v) all h.0), h.1);
  filled = now.filled;
  follows = now.follows;
  earlier = λ s p lt h. (now.earlier s p lt h).1;
}
  where
    all : take k order ≡ order
    all = ap (λ m. take m order) e ∙ take-length order
