-- Priorities and counts of vertices, segment by segment.
use Rattle.std.proofs.Common.{◌≡◌, ℕ, zero, suc, ◌+◌, ◌-◌, ◌*◌, ◌<◌, ◌≤◌, List, ◌++◌, length, get_or, sym, ap, ◌∙◌, subst, inl, inr, arith}
use Rattle.std.specs.List.{Contains, range_with_len}
use Rattle.std.specs.Int.{bit_at}
use Rattle.std.proofs.lemmas.Bool.{cases_eq}
use Rattle.std.proofs.lemmas.List.{length-append}
use Rattle.std.proofs.lemmas.List.FromFn.{get_or-range_with_len, length-range_with_len}
use Rattle.std.proofs.lemmas.List.Elements.{Contains-append_left, Contains-append_right, Contains-append_cases}
use Rattle.std.proofs.lemmas.Nat.Bits.{bit_at-lt}
use Rattle.cost_graph.specs.Graph.{CostGraph, vertex_total, vertex_priority}
use Rattle.cost_graph.proofs.Members.{distinct_join}
use Rattle.cost_graph.proofs.Ranges.{in_range, distinct_range}
use Rattle.cost_graph.proofs.Threads.{owner_priority}
use Rattle.span_bound.specs.Work.{IsCount}
use Rattle.span_bound.specs.Inside.Segments.{IsIn, AreSegmentsOf, spread}
use Rattle.span_bound.proofs.Counts.{count_none, count_same}
use Rattle.span_bound.proofs.Passes.{spread_at}

priority_along : (g : CostGraph) (heads lens slots : List ℕ) (s d : ℕ) → AreSegmentsOf g heads lens slots → s < length heads → d < get_or lens s 0 → vertex_priority g (get_or heads s 0 + d) ≡ vertex_priority g (get_or heads s 0)
priority_along g heads lens slots s zero cut lt d_lt = let e : get_or heads s 0 + 0 ≡ get_or heads s 0 = omega arith in ap (vertex_priority g) e
priority_along g heads lens slots s (suc d) cut lt d_lt =
    let v : ℕ = get_or heads s 0 + suc d in
    let f = cut.follows s v lt (omega arith, omega (arith, d_lt)) (omega arith) in
    let before : v - 1 ≡ get_or heads s 0 + d = omega arith in
    owner_priority g v f.thread f.owns ∙ sym (owner_priority g (v - 1) f.thread f.owns_before) ∙ ap (vertex_priority g) before ∙ priority_along g heads lens slots s d cut lt (omega (arith, d_lt))

-- all vertices of a segment have the priority of its first
pub priority_same : (g : CostGraph) (heads lens slots : List ℕ) (v : ℕ) → AreSegmentsOf g heads lens slots → v < vertex_total g → vertex_priority g v ≡ vertex_priority g (get_or heads (get_or slots v 0) 0)
priority_same g heads lens slots v cut lt =
    let at = cut.stands v lt in
    let s = get_or slots v 0 in
    let d : ℕ = v - get_or heads s 0 in
    let e : get_or heads s 0 + d ≡ v = omega (arith, at.1.0) in
    ap (vertex_priority g) (sym e) ∙ priority_along g heads lens slots s d cut at.0 (omega (arith, at.1.0, at.1.1))

from_range : (a n v : ℕ) → Contains (range_with_len a n) v → (a ≤ v) × (v < a + n)
from_range a n v c =
    let c_lt : c.0 < n = let l = length-range_with_len a n in omega (arith, c.1, l) in
    let at = sym (get_or-range_with_len a n c.0 v c_lt) ∙ c.2 in
    (omega (arith, at), omega (arith, at, c_lt))

-- the vertices of the first k segments whose word has a bit
abbrev pub Counted : CostGraph → List ℕ → List ℕ → ℕ → ℕ → ℕ → Type 0
Counted g slots words i k v = (v < vertex_total g) × (get_or slots v 0 < k) × (bit_at (get_or words (get_or slots v 0) 0) i ≡ 1)

pub counted_none : (g : CostGraph) (slots words : List ℕ) (i : ℕ) → IsCount (Counted g slots words i 0) 0
counted_none g slots words i = count_none (Counted g slots words i 0) (λ v h. omega (arith, h.1))

module _ (g : CostGraph) (heads lens slots words : List ℕ) (i k count : ℕ) (cut : AreSegmentsOf g heads lens slots) (lt : k < length heads) (old : IsCount (Counted g slots words i k) count) where
  counted_yes : bit_at (get_or words k 0) i ≡ 1 → IsCount (Counted g slots words i (k + 1)) (count + get_or lens k 0)
  counted_yes bit = record {
    members = old.members ++ range_with_len (get_or heads k 0) (get_or lens k 0);
    once = distinct_join old.members (range_with_len (get_or heads k 0) (get_or lens k 0)) old.once (distinct_range (get_or heads k 0) (get_or lens k 0))
        (λ v a b. let h = (old.are v).1 a in let at = (cut.own k v lt (from_range (get_or heads k 0) (get_or lens k 0) v b)).1 in omega (arith, h.1, at));
    are = λ v. (
      λ h. elim (cases_eq (get_or slots v 0) k) [
        | inl e ↦
            let at = subst (λ s. IsIn heads lens s v) e (cut.stands v h.0).1 in
            Contains-append_right old.members (range_with_len (get_or heads k 0) (get_or lens k 0)) v (in_range (get_or heads k 0) (get_or lens k 0) v at.0 at.1)
        | inr ne ↦ Contains-append_left old.members (range_with_len (get_or heads k 0) (get_or lens k 0)) v ((old.are v).0 (h.0, omega (arith, h.1, ne), h.2))
      ],
      λ m. elim (Contains-append_cases old.members (range_with_len (get_or heads k 0) (get_or lens k 0)) v m) [
        | inl early ↦ let h = (old.are v).1 early in (h.0, omega (arith, h.1), h.2)
        | inr late ↦
            let own = cut.own k v lt (from_range (get_or heads k 0) (get_or lens k 0) v late) in
            (own.0, omega (arith, own.1), ap (λ s. bit_at (get_or words s 0) i) own.1 ∙ bit)
      ],
    );
    is = length-append old.members (range_with_len (get_or heads k 0) (get_or lens k 0)) ∙ (let l = length-range_with_len (get_or heads k 0) (get_or lens k 0) in omega (arith, l, old.is));
  }

  counted_no : (bit_at (get_or words k 0) i ≡ 1 → ⊥) → IsCount (Counted g slots words i (k + 1)) count
  counted_no none = count_same (Counted g slots words i k) (Counted g slots words i (k + 1)) count
      (λ v h. (h.0, omega (arith, h.1), h.2))
      (λ v h. elim (cases_eq (get_or slots v 0) k) [
        | inl e ↦ absurd (none (ap (λ s. bit_at (get_or words s 0) i) (sym e) ∙ h.2))
        | inr ne ↦ (h.0, omega (arith, h.1, ne), h.2)
      ]) old

  pub counted_more : IsCount (Counted g slots words i (k + 1)) (count + bit_at (get_or words k 0) i * get_or lens k 0)
  counted_more = elim (cases_eq (bit_at (get_or words k 0) i) 1) [
    | inl e ↦
        let len = get_or lens k 0 in
        let times : count + len ≡ count + bit_at (get_or words k 0) i * len = ap (λ n. count + n) (one_times len ∙ ap (λ b. b * len) (sym e)) in
        subst (IsCount (Counted g slots words i (k + 1))) times (counted_yes e)
    | inr ne ↦
        let len = get_or lens k 0 in
        let zero_bit : bit_at (get_or words k 0) i ≡ 0 = let b = bit_at-lt (get_or words k 0) i in omega (arith, b, ne) in
        let times : count ≡ count + bit_at (get_or words k 0) i * len = none_more len ∙ ap (λ b. count + b * len) (sym zero_bit) in
        subst (IsCount (Counted g slots words i (k + 1))) times (counted_no ne)
  ]
    where
      one_times : (n : ℕ) → n ≡ 1 * n
      one_times n = omega arith

      none_more : (n : ℕ) → count ≡ count + 0 * n
      none_more n = omega arith

pub times_low : (b n : ℕ) → b < 2 → b * n ≤ n
times_low zero n lt = omega arith
times_low (suc zero) n lt = omega arith
times_low (suc (suc b)) n lt = absurd (omega (arith, lt))

pub counted_end : (g : CostGraph) (heads lens slots words : List ℕ) (i k count : ℕ) → AreSegmentsOf g heads lens slots → k ≡ length heads → IsCount (Counted g slots words i k) count → IsCount (λ v. (v < vertex_total g) × (bit_at (get_or (spread slots words) v 0) i ≡ 1)) count
counted_end g heads lens slots words i k count cut e old =
    count_same (Counted g slots words i k) (λ v. (v < vertex_total g) × (bit_at (get_or (spread slots words) v 0) i ≡ 1)) count
    (λ v h. (h.0, ap (λ w. bit_at w i) (spread_at slots words v (omega (arith, h.0, cut.covers))) ∙ h.2))
    (λ v h. (h.0, omega (arith, (cut.stands v h.0).0, e), ap (λ w. bit_at w i) (sym (spread_at slots words v (omega (arith, h.0, cut.covers)))) ∙ h.1)) old
