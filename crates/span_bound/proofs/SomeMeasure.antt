-- Each thread of a graph without cycles has a work and a span.
use Rattle.std.proofs.Common.{◌≡◌, ℕ, zero, suc, ◌+◌, ◌-◌, ◌<◌, ◌≤◌, ◌↔◌, ◌⊎◌, Bool, true, false, List, [], ◌∷◌, length, get_or, set, replicate, refl, sym, ap, ◌∙◌, subst, inl, inr, arith}
use Rattle.std.specs.List.{Contains}
use Rattle.std.proofs.lemmas.Bool.{cases_eq, cases_lt, cases_Bool, both_ways}
use Rattle.std.proofs.lemmas.List.{length-replicate}
use Rattle.std.proofs.Math.Seq.{take-length}
use Rattle.priority_order.proofs.Decided.{below_or_not}
use Rattle.cost_graph.specs.Graph.{CostGraph, vertex_total, thread_total, thread_at, vertex_priority, first_vertex, last_vertex, parents_at, children_at, IsGraph, IsAcyclic, IsProperAncestor}
use Rattle.cost_graph.specs.Order.{IsTopological, AreMarked}
use Rattle.cost_graph.specs.Inside.Order.{HasWay}
use Rattle.cost_graph.proofs.Above.{IsAbove, above_on, above_start, above_end, IsBeneath, beneath_on, beneath_start, beneath_end, order_below}
use Rattle.cost_graph.proofs.Ends.{last_below}
use Rattle.cost_graph.proofs.Members.{no_member, member_cons, member_head, member_tail}
use Rattle.cost_graph.proofs.Ordered.{ordered_acyclic}
use Rattle.span_bound.specs.Work.{IsCount, Competes, IsWork, IsSpan}
use Rattle.span_bound.proofs.Counts.{count_start, count_yes, count_no, count_end}
use Rattle.span_bound.proofs.Longest.{IsBuilt, turn, turn_skipped}
use Rattle.span_bound.proofs.Span.{level_is_span}

-- a number is a target or marked, or none is
way_or_not : (marks : List Bool) (numbers : List ℕ) (target : ℕ) → (b : Bool) × ((b ≡ true) ↔ HasWay marks numbers target)
way_or_not marks [] target = (false, (λ e. absurd (both_ways false refl e), λ h. absurd (no_member h.0 h.1)))
way_or_not marks (n ∷ ns) target =
    elim (cases_eq n target) [
      | inl same ↦ (true, (λ _. (n, member_head n ns, inl same), λ _. refl))
      | inr other ↦ elim (cases_Bool (get_or marks n false)) [
        | inl yes' ↦ (true, (λ _. (n, member_head n ns, inr yes'), λ _. refl))
        | inr no' ↦
            let rest = way_or_not marks ns target in (
              rest.0,
              (
                λ e. let h = rest.1.0 e in (h.0, member_tail n ns h.0 h.1, h.2),
                λ h. elim (member_cons n ns h.0 h.1) [
                  | inr late ↦ rest.1.1 (h.0, late, h.2)
                  | inl is ↦ elim h.2 [
                    | inl at ↦ absurd (other (is ∙ at))
                    | inr marked ↦ absurd (both_ways (get_or marks n false) no' (ap (λ k. get_or marks k false) is ∙ marked))
                  ]
                ],
              ),
            )
      ]
    ]

-- the greatest of the numbers at these places
greatest_of : (levels numbers : List ℕ) → (best : ℕ) × ((p : ℕ) → Contains numbers p → get_or levels p 0 ≤ best) × (0 < best → (p : ℕ) × Contains numbers p × (get_or levels p 0 ≡ best))
greatest_of levels [] = (0, λ p c. absurd (no_member p c), λ some. absurd (omega (arith, some)))
greatest_of levels (n ∷ ns) =
    let rest = greatest_of levels ns in
    let here : ℕ = get_or levels n 0 in
    elim (cases_lt rest.0 here) [
      | inl more ↦ (
        here,
        λ p c. elim (member_cons n ns p c) [
          | inl is ↦ let same : here ≡ get_or levels p 0 = ap (λ k. get_or levels k 0) is in omega (arith, same)
          | inr late ↦ let h = rest.1 p late in omega (arith, h, more)
        ],
        λ _. (n, member_head n ns, refl),
      )
      | inr less ↦ (
        rest.0,
        λ p c. elim (member_cons n ns p c) [
          | inl is ↦ let same : here ≡ get_or levels p 0 = ap (λ k. get_or levels k 0) is in omega (arith, same, less)
          | inr late ↦ rest.1 p late
        ],
        λ some. let h = rest.2 some in (h.0, member_tail n ns h.0 h.1, h.2),
      )
    ]

-- how many numbers below n have a property that each has or not
count_to : (P : ℕ → Type 0) → ((v : ℕ) → P v ⊎ (P v → ⊥)) → (n : ℕ) → (k : ℕ) × IsCount (λ v. (v < n) × P v) k
count_to P tells zero = (0, count_start P)
count_to P tells (suc n) =
    let now = count_to P tells n in
    let same : n + 1 ≡ suc n = omega arith in
    elim (tells n) [
      | inl here ↦ (now.0 + 1, subst (λ m. IsCount (λ v. (v < m) × P v) (now.0 + 1)) same (count_yes P n now.0 here now.1))
      | inr none ↦ (now.0, subst (λ m. IsCount (λ v. (v < m) × P v) now.0) same (count_no P n now.0 none now.1))
    ]

no_level : (n v : ℕ) → get_or {A = ℕ} (replicate n 0) v 0 ≡ 0
no_level zero v = refl
no_level (suc n) zero = refl
no_level (suc n) (suc v) = no_level n v

module _ (g : CostGraph) (order : List ℕ) (ok : IsGraph g) (topo : IsTopological g order) where
  acyclic : IsAcyclic g
  acyclic = ordered_acyclic g order topo ok

  above_to : (target j : ℕ) → j ≤ length order → (marks : List Bool) × IsAbove g order target marks (length order - j)
  above_to target zero le = let same : length order ≡ length order - 0 = omega arith in (replicate (vertex_total g) false, subst (IsAbove g order target (replicate (vertex_total g) false)) same (above_start g order target (vertex_total g) refl))
  above_to target (suc j) le =
      let now = above_to target j (omega (arith, le)) in
      let place : ℕ = length order - suc j in
      let next : length order - j ≡ suc place = omega (arith, le) in
      let way = way_or_not now.0 (children_at g (get_or order place 0)) target in
      (set now.0 (get_or order place 0) way.0, above_on g order target now.0 place way.0 acyclic topo (subst (IsAbove g order target now.0) next now.1) way.1)

  some_above : (target : ℕ) → (marks : List Bool) × AreMarked g (λ v. IsProperAncestor g v target) marks
  some_above target =
      let all = above_to target (length order) (omega arith) in
      let end : length order - length order ≡ 0 = omega arith in
      (all.0, above_end g order target all.0 topo (subst (IsAbove g order target all.0) end all.1))

  beneath_to : (source i : ℕ) → i ≤ length order → (marks : List Bool) × IsBeneath g order source marks i
  beneath_to source zero le = (replicate (vertex_total g) false, beneath_start g order source (vertex_total g) refl)
  beneath_to source (suc i) le =
      let now = beneath_to source i (omega (arith, le)) in
      let way = way_or_not now.0 (parents_at g (get_or order i 0)) source in
      let same : i + 1 ≡ suc i = omega arith in
      let marks : List Bool = set now.0 (get_or order i 0) way.0 in
      (marks, subst (IsBeneath g order source marks) same (beneath_on g order source now.0 i way.0 (omega (arith, le)) acyclic topo now.1 way.1))

  some_beneath : (source : ℕ) → (marks : List Bool) × AreMarked g (IsProperAncestor g source) marks
  some_beneath source = let all = beneath_to source (length order) (omega arith) in (all.0, beneath_end g order source all.0 topo all.1)

  levels_to : (skipped : List Bool) (i : ℕ) → i ≤ length order → (levels : List ℕ) × IsBuilt g skipped order levels i
  levels_to skipped zero le = (
    replicate (vertex_total g) 0,
    record {
      fits = length-replicate (vertex_total g) 0;
      low = λ v. omega (arith, no_level (vertex_total g) v);
      are = λ v c. absurd (no_member v c);
      rest = λ v _. no_level (vertex_total g) v;
    },
  )
  levels_to skipped (suc i) le =
      let now = levels_to skipped i (omega (arith, le)) in
      let lt : i < length order = omega (arith, le) in
      let v : ℕ = get_or order i 0 in
      let same : i + 1 ≡ suc i = omega arith in
      elim (cases_Bool (get_or skipped v false)) [
        | inl yes' ↦ (now.0, subst (IsBuilt g skipped order now.0) same (turn_skipped g skipped order now.0 i topo now.1 lt yes'))
        | inr no' ↦
            let best = greatest_of now.0 (parents_at g v) in
            let levels : List ℕ = set now.0 v (best.0 + 1) in
            (levels, subst (IsBuilt g skipped order levels) same (turn g skipped order now.0 i topo now.1 lt best.0 no' (order_below g order i topo lt) best.1 best.2))
      ]

  module _ (t : ℕ) (lt : t < thread_total g) where
    -- the span is the level of the last vertex
    pub some_span : (span : ℕ) × IsSpan g t span
    some_span =
        let ancestor_marks = some_above (first_vertex g t) in
        let all = levels_to ancestor_marks.0 (length order) (omega arith) in
        let at = subst (λ l. Contains l (last_vertex g t)) (sym (take-length order)) ((topo.all (last_vertex g t)).0 (last_below g t ok lt)) in
        (get_or all.0 (last_vertex g t) 0, level_is_span g t ancestor_marks.0 ok lt acyclic ancestor_marks.1 (get_or all.0 (last_vertex g t) 0) (all.1.are (last_vertex g t) at))

    marked_or_not : (P : ℕ → Type 0) (marks : List Bool) → AreMarked g P marks → (v : ℕ) → v < vertex_total g → P v ⊎ (P v → ⊥)
    marked_or_not P marks m v v_lt =
        elim (cases_Bool (get_or marks v false)) [ inl yes' ↦ inl ((m.are v v_lt).0 yes') | inr no' ↦ inr (λ h. both_ways (get_or marks v false) no' ((m.are v v_lt).1 h)) ]

    competes_or_not : (pairs : List (ℕ × ℕ)) (v : ℕ) → Competes g pairs t v ⊎ (Competes g pairs t v → ⊥)
    competes_or_not pairs v =
        let ancestor_marks = some_above (first_vertex g t) in
        let descendant_marks = some_beneath (last_vertex g t) in
        elim (cases_lt v (vertex_total g)) [
          | inr past ↦ inr (λ h. omega (arith, past, h.0))
          | inl v_lt ↦ elim (below_or_not pairs (vertex_priority g v) (thread_at g t).priority) [
            | inl below ↦ inr (λ h. h.1 below)
            | inr high ↦ elim (marked_or_not (λ w. IsProperAncestor g w (first_vertex g t)) ancestor_marks.0 ancestor_marks.1 v v_lt) [
              | inl up ↦ inr (λ h. h.2 up)
              | inr not_up ↦ elim (marked_or_not (IsProperAncestor g (last_vertex g t)) descendant_marks.0 descendant_marks.1 v v_lt) [
                | inl down ↦ inr (λ h. h.3 down)
                | inr not_down ↦ inl (v_lt, high, not_up, not_down)
              ]
            ]
          ]
        ]

    -- the work is the number of those that compete
    pub some_work : (pairs : List (ℕ × ℕ)) → (work : ℕ) × IsWork g pairs t work
    some_work pairs =
        let all = count_to (Competes g pairs t) (competes_or_not pairs) (vertex_total g) in
        (all.0, count_end (Competes g pairs t) (vertex_total g) all.0 (λ v h. h.0) all.1)
