-- The canonical plan is prompt.
use Rattle.std.proofs.Common.{◌≡◌, ℕ, zero, suc, ◌<◌, ◌≤◌, List, [], ◌∷◌, ◌++◌, length, take, drop, get_or, min, refl, sym, ap, ◌∙◌, subst, inl, inr, arith, Ordering}
use Rattle.std.specs.Prelude.{nat_eq}
use Rattle.std.specs.declared.cmp.Ordering.TheVariants.{Less, Equal, Greater}
use Rattle.std.specs.List.{concat, Contains, IsDistinct}
use Rattle.std.specs.List.Sorted.{IsStrictlySortedBy}
use Rattle.std.specs.Ordering.{nat_cmp, ordering_then}
use Rattle.std.proofs.lemmas.Cmp.{ranked}
use Rattle.std.proofs.lemmas.List.Elements.{Contains-append_cases, All-contains, All-from_recursion}
use Rattle.std.proofs.lemmas.List.{take-append-drop, length-map, length-take, length-drop}
use Rattle.std.proofs.Math.Seq.{take-length}
use Rattle.cost_graph.specs.Walks.{HasNoCycle}
use Rattle.cost_graph.specs.Graph.{CostGraph, vertex_total, parents_at, Edge, IsGraph}
use Rattle.cost_graph.specs.Marks.{IsReady}
use Rattle.prompt_checker.specs.Plan.{IsPlan, pair_cmp}
use Rattle.prompt_checker.specs.Schedule.{vertices_before}
use Rattle.cost_graph.proofs.Members.{distinct_join, parents_seen, member_or_not, no_member, member_cons, in_drop, in_take}
use Rattle.prompt_checker.proofs.Steps.{before_each, before_distinct}
use Rattle.prompt_planner.proofs.Going.{from_map, into_map, distinct_step}
use Rattle.prompt_checker.specs.Schedule.{step_at, IsPrompt}
use Rattle.cost_graph.proofs.Cycles.{stuck_has_cycle}

lanes_in_order : (a b : ℕ × ℕ) → pair_cmp a b ≡ Less → a.0 ≤ b.0
lanes_in_order a b e = go (nat_cmp a.0 b.0) refl e
  where
    go : (o : Ordering) → o ≡ nat_cmp a.0 b.0 → ordering_then o (nat_cmp a.1 b.1) ≡ Less → a.0 ≤ b.0
    go Less s e' = let lt : a.0 < b.0 = ranked a.0 b.0 Less s in omega arith
    go Equal s e' = let same : a.0 ≡ b.0 = ranked a.0 b.0 Equal s in omega arith
    go Greater s e' = absurd (cc e')

sorted_apart : (keys : List (ℕ × ℕ)) (n : ℕ) (k j : ℕ × ℕ) → IsStrictlySortedBy pair_cmp keys → Contains (take n keys) k → Contains (drop n keys) j → pair_cmp k j ≡ Less
unfolding IsStrictlySortedBy
sorted_apart [] zero k j s a b = absurd (no_member k a)
sorted_apart [] (suc n) k j s a b = absurd (no_member k a)
sorted_apart (x ∷ xs) zero k j s a b = absurd (no_member k a)
sorted_apart (x ∷ xs) (suc n) k j s a b =
    elim (member_cons x (take n xs) k a) [
      | inl e ↦ subst (λ y. pair_cmp y j ≡ Less) e (All-contains (λ y. pair_cmp x y ≡ Less) xs j (All-from_recursion (λ y. pair_cmp x y ≡ Less) xs s.0) (in_drop xs n j b))
      | inr late ↦ sorted_apart xs n k j s.1 late b
    ]

module _ (g : CostGraph) (lanes : List ℕ) (cores : ℕ) (steps : List (List ℕ)) (plan : IsPlan g lanes cores steps) (shape : IsGraph g) (acyclic : HasNoCycle (Edge g))
    (below : ℕ → ℕ → Type 0) (lane_below : (v u : ℕ) → v < vertex_total g → u < vertex_total g → below v u → get_or lanes u 0 < get_or lanes v 0) where
  ready_at : (i v : ℕ) → i < length steps → Contains (step_at steps i) v → IsReady g (vertices_before steps i) v
  ready_at i v lt c =
      let p = plan.each i lt in
      let k = from_map (take cores p.keys) v (subst (λ l. Contains l v) p.first c) in
      subst (IsReady g (vertices_before steps i)) k.2 ((p.ready.are k.0).0 (in_take p.keys cores k.0 k.1)).0

  -- the key of a ready vertex that is left out
  left_key : (i u : ℕ) (lt : i < length steps) → IsReady g (vertices_before steps i) u → (Contains (step_at steps i) u → ⊥) → Contains (drop cores (plan.each i lt).keys) (get_or lanes u 0, u)
  left_key i u lt r out =
      let p = plan.each i lt in
      let had = (p.ready.are (get_or lanes u 0, u)).1 (r, refl) in
      elim (Contains-append_cases (take cores p.keys) (drop cores p.keys) (get_or lanes u 0, u) (subst (λ l. Contains l (get_or lanes u 0, u)) (sym (take-append-drop cores p.keys)) had)) [
        | inl early ↦ absurd (out (subst (λ l. Contains l u) (sym p.first) (into_map (take cores p.keys) (get_or lanes u 0, u) early)))
        | inr late ↦ late
      ]

  distinct_more : (i : ℕ) → i < length steps → IsDistinct nat_eq (vertices_before steps i) → IsDistinct nat_eq (vertices_before steps i ++ step_at steps i)
  distinct_more i lt d =
      let p = plan.each i lt in
      let one = subst (IsDistinct nat_eq) (sym p.first) (distinct_step lanes p.keys p.ready.rising (λ k c. ((p.ready.are k).0 c).1) cores) in
      distinct_join (vertices_before steps i) (step_at steps i) d one (λ v a b. (ready_at i v lt b).waits a)

  whole : vertices_before steps (length steps) ≡ concat steps
  whole = ap concat (take-length steps)

  abbrev Missing : ℕ → Type 0
  Missing v = (v < vertex_total g) × (Contains (concat steps) v → ⊥)

  missing_parent : (v : ℕ) → Missing v → (p : ℕ) × Edge g p v × Missing p
  missing_parent v m =
      elim (parents_seen (concat steps) (parents_at g v)) [
        | inl all ↦ absurd (plan.none_left v (record { vertex = m.0; waits = m.1; parents = all }))
        | inr p ↦ (p.0, p.1, (shape.ends p.0 v p.1, p.2))
      ]

  size : (i : ℕ) (lt : i < length steps) → length (step_at steps i) ≡ min cores (length (plan.each i lt).keys)
  size i lt =
      let p = plan.each i lt in
      ap length p.first ∙ length-map {A = ℕ × ℕ} {B = ℕ} (take cores p.keys) (λ k. k.1) ∙ length-take cores p.keys

  le_all : length steps ≤ length steps
  le_all = omega arith

  pub plan_is_prompt : IsPrompt g below cores steps
  plan_is_prompt = record {
    valid = record {
      once = subst (IsDistinct nat_eq) whole (before_distinct steps distinct_more (length steps) le_all);
      all = λ v. (
        λ lt. elim (member_or_not (concat steps) v) [ inl c ↦ c | inr out ↦ absurd (stuck_has_cycle (Edge g) Missing (vertex_total g) (λ w m. m.0) missing_parent acyclic v (lt, out)) ],
        λ c. before_each (λ w. w < vertex_total g) steps (λ i u lt k. (ready_at i u lt k).vertex) (length steps) v le_all (subst (λ l. Contains l v) (sym whole) c),
      );
      after = λ i v lt c. (ready_at i v lt c).parents;
      filled = λ i lt. (plan.each i lt).some;
      fits = λ i lt. let p = plan.each i lt in omega (arith, size i lt);
    };
    busy = λ i u lt r out.
        let p = plan.each i lt in
        let some = left_key i u lt r out in
        let more : 0 < length (drop cores p.keys) = omega (arith, some.1) in
        omega (arith, more, length-drop cores p.keys, size i lt);
    fair = λ i v u lt c r out b.
        let p = plan.each i lt in
        let k = from_map (take cores p.keys) v (subst (λ l. Contains l v) p.first c) in
        let lane = ((p.ready.are k.0).0 (in_take p.keys cores k.0 k.1)).1 in
        let le = lanes_in_order k.0 (get_or lanes u 0, u) (sorted_apart p.keys cores k.0 (get_or lanes u 0, u) p.ready.rising k.1 (left_key i u lt r out)) in
        let here : k.0.0 ≡ get_or lanes v 0 = lane ∙ ap (λ x. get_or lanes x 0) k.2 in
        omega (arith, le, here, lane_below v u (ready_at i v lt c).vertex r.vertex b);
  }
