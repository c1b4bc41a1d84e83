-- The words of a pass over the segments, turn by turn.
use Rattle.std.proofs.Common.{◌≡◌, ◌↔◌, ℕ, suc, ◌+◌, ◌<◌, ◌≤◌, List, length, get_or, set, sym, ap, ◌∙◌, subst, inl, inr, arith}
use Rattle.std.specs.List.{All}
use Rattle.std.specs.Int.{bit_at}
use Rattle.std.proofs.lemmas.Bool.{cases_eq}
use Rattle.std.proofs.lemmas.List.{get_or-map, get_or-set_same, get_or-set_other, length-map, length-set}
use Rattle.std.proofs.lemmas.List.Elements.{All-from_get_or}
use Rattle.cost_graph.specs.Walks.{HasNoCycle}
use Rattle.cost_graph.specs.Graph.{CostGraph, Edge, IsGraph, IsProperAncestor, vertex_total, parents_at, children_at}
use Rattle.span_bound.specs.Inside.Words.{AreMarkedForEach, HasBit, Owns}
use Rattle.span_bound.specs.Inside.Segments.{IsIn, AreSegmentsOf, images, last_of, spread}
use Rattle.span_bound.proofs.Kinship.{above_same, above_last, beneath_same, beneath_head}

pub spread_at : (slots words : List ℕ) (v : ℕ) → v < length slots → get_or (spread slots words) v 0 ≡ get_or words (get_or slots v 0) 0
spread_at slots words v lt = get_or-map (λ s. get_or words s 0) slots v 0 0 lt

-- the slots of vertices are segments
pub images_below : (g : CostGraph) (heads lens slots vs : List ℕ) → AreSegmentsOf g heads lens slots → All (λ v. v < vertex_total g) vs → All (λ s. s < length heads) (images slots vs)
images_below g heads lens slots vs cut h =
    All-from_get_or (λ s. s < length heads) (images slots vs) 0 (λ k lt.
    let k_in : k < length vs = let e = length-map vs (λ v. get_or slots v 0) in omega (arith, lt, e) in
    subst (λ s. s < length heads) (sym (get_or-map (λ v. get_or slots v 0) vs k 0 0 k_in)) (cut.stands (get_or vs k 0) (h k 0 k_in)).0)

pub owns_images : (slots targets own : List ℕ) → ((i x : ℕ) → i < length (images slots targets) → (bit_at (get_or own x 0) i ≡ 1) ↔ (x ≡ get_or (images slots targets) i 0)) → Owns slots targets own
owns_images slots targets own h i x lt =
    let i_in : i < length (images slots targets) = let e = length-map targets (λ v. get_or slots v 0) in omega (arith, lt, e) in
    subst (λ s. (bit_at (get_or own x 0) i ≡ 1) ↔ (x ≡ s)) (get_or-map (λ v. get_or slots v 0) targets i 0 0 lt) (h i x i_in)

-- the words of the segments from a place on are right
pub record IsAboveEach (g : CostGraph) (heads slots targets words : List ℕ) (place : ℕ) : Type 0 where
  pub size : length words ≡ length heads
  pub low : place ≤ length heads
  pub each : (i v : ℕ) → i < length targets → v < vertex_total g → place ≤ get_or slots v 0 → (bit_at (get_or words (get_or slots v 0) 0) i ≡ 1) ↔ IsProperAncestor g v (get_or targets i 0)

-- the words of the segments before a place are right
pub record IsBeneathEach (g : CostGraph) (heads slots sources words : List ℕ) (place : ℕ) : Type 0 where
  pub size : length words ≡ length heads
  pub each : (i v : ℕ) → i < length sources → v < vertex_total g → get_or slots v 0 < place → (bit_at (get_or words (get_or slots v 0) 0) i ≡ 1) ↔ IsProperAncestor g (get_or sources i 0) v

module _ (g : CostGraph) (heads lens slots : List ℕ) (ok : IsGraph g) (acyclic : HasNoCycle (Edge g)) (cut : AreSegmentsOf g heads lens slots) where
  module _ (targets own words : List ℕ) (place word : ℕ) (firsts : All (λ t. get_or heads (get_or slots t 0) 0 ≡ t) targets) (owns : Owns slots targets own)
      (now : IsAboveEach g heads slots targets words (suc place)) (said : (i : ℕ) → (bit_at word i ≡ 1) ↔ HasBit words own (images slots (children_at g (last_of heads lens place))) i) where
    here : get_or (set words place word) place 0 ≡ word
    here = get_or-set_same words place word 0 (omega (arith, now.low, now.size))

    one : (i v : ℕ) → i < length targets → v < vertex_total g → place ≤ get_or slots v 0 → (bit_at (get_or (set words place word) (get_or slots v 0) 0) i ≡ 1) ↔ IsProperAncestor g v (get_or targets i 0)
    one i v lt v_lt le = elim (cases_eq (get_or slots v 0) place) [
      | inl e ↦
          let s_lt : place < length heads = omega (arith, now.low) in
          let in_s = subst (λ s. IsIn heads lens s v) e (cut.stands v v_lt).1 in
          let first = firsts i 0 lt in
          let same = above_same g heads lens slots ok cut acyclic (get_or targets i 0) first place v s_lt in_s in
          let last = above_last g heads lens slots ok cut acyclic (get_or targets i 0) first words own i place s_lt (λ x. owns i x lt) (λ w w_lt later. now.each i w lt w_lt (omega (arith, later))) in
          let word_is = ap (λ x. get_or (set words place word) x 0) e ∙ here in
          (λ h. same.1 (last.0 ((said i).0 (ap (λ w. bit_at w i) (sym word_is) ∙ h))), λ h. ap (λ w. bit_at w i) word_is ∙ (said i).1 (last.1 (same.0 h)))
      | inr ne ↦ subst (λ w. (bit_at w i ≡ 1) ↔ IsProperAncestor g v (get_or targets i 0)) (sym (get_or-set_other words place (get_or slots v 0) word 0 ne)) (now.each i v lt v_lt (omega (arith, le, ne)))
    ]

    pub above_each_on : IsAboveEach g heads slots targets (set words place word) place
    above_each_on = record { size = length-set words place word ∙ now.size; low = omega (arith, now.low); each = one }

  pub above_each_end : (targets words : List ℕ) → IsAboveEach g heads slots targets words 0 → AreMarkedForEach g (length targets) (λ i v. IsProperAncestor g v (get_or targets i 0)) (spread slots words)
  above_each_end targets words now = record {
    covers = length-map slots (λ s. get_or words s 0) ∙ cut.covers;
    are = λ i v lt v_lt. subst (λ w. (bit_at w i ≡ 1) ↔ IsProperAncestor g v (get_or targets i 0)) (sym (spread_at slots words v (omega (arith, v_lt, cut.covers)))) (now.each i v lt v_lt (omega arith));
  }

  module _ (sources own words : List ℕ) (place word : ℕ) (lasts : All (λ t. last_of heads lens (get_or slots t 0) ≡ t) sources) (owns : Owns slots sources own) (p_lt : place < length heads)
      (now : IsBeneathEach g heads slots sources words place) (said : (i : ℕ) → (bit_at word i ≡ 1) ↔ HasBit words own (images slots (parents_at g (get_or heads place 0))) i) where
    word_at : get_or (set words place word) place 0 ≡ word
    word_at = get_or-set_same words place word 0 (omega (arith, p_lt, now.size))

    each_one : (i v : ℕ) → i < length sources → v < vertex_total g → get_or slots v 0 < place + 1 → (bit_at (get_or (set words place word) (get_or slots v 0) 0) i ≡ 1) ↔ IsProperAncestor g (get_or sources i 0) v
    each_one i v lt v_lt le = elim (cases_eq (get_or slots v 0) place) [
      | inl e ↦
          let in_s = subst (λ s. IsIn heads lens s v) e (cut.stands v v_lt).1 in
          let last = lasts i 0 lt in
          let same = beneath_same g heads lens slots ok cut acyclic (get_or sources i 0) last place v p_lt in_s in
          let head = beneath_head g heads lens slots ok cut acyclic (get_or sources i 0) last words own i place p_lt (λ x. owns i x lt) (λ w w_lt earlier. now.each i w lt w_lt earlier) in
          let word_is = ap (λ x. get_or (set words place word) x 0) e ∙ word_at in
          (λ h. same.1 (head.0 ((said i).0 (ap (λ w. bit_at w i) (sym word_is) ∙ h))), λ h. ap (λ w. bit_at w i) word_is ∙ (said i).1 (head.1 (same.0 h)))
      | inr ne ↦ subst (λ w. (bit_at w i ≡ 1) ↔ IsProperAncestor g (get_or sources i 0) v) (sym (get_or-set_other words place (get_or slots v 0) word 0 ne)) (now.each i v lt v_lt (omega (arith, le, ne)))
    ]

    pub beneath_each_on : IsBeneathEach g heads slots sources (set words place word) (place + 1)
    beneath_each_on = record { size = length-set words place word ∙ now.size; each = each_one }

  pub beneath_each_end : (sources words : List ℕ) (place : ℕ) → place ≡ length heads → IsBeneathEach g heads slots sources words place
      → AreMarkedForEach g (length sources) (λ i v. IsProperAncestor g (get_or sources i 0) v) (spread slots words)
  beneath_each_end sources words place e now = record {
    covers = length-map slots (λ s. get_or words s 0) ∙ cut.covers;
    are = λ i v lt v_lt. subst (λ w. (bit_at w i ≡ 1) ↔ IsProperAncestor g (get_or sources i 0) v) (sym (spread_at slots words v (omega (arith, v_lt, cut.covers)))) (now.each i v lt v_lt (omega (arith, (cut.stands v v_lt).0, e)));
  }
