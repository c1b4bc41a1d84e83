-- Lanes of a lawful order, and of the vertices of a graph, exist.
use Rattle.std.proofs.Common.{◌≡◌, ℕ, zero, suc, ◌+◌, ◌<◌, ◌≤◌, ◌⊎◌, List, [], ◌∷◌, ◌++◌, length, refl, subst, inl, inr, arith}
use Rattle.std.specs.List.{All}
use Rattle.std.proofs.lemmas.Bool.{cases_eq, cases_lt}
use Rattle.std.proofs.lemmas.List.{length-append}
use Rattle.priority_order.specs.Order.{IsBelow, IsLawful, Remains, IsTop, IsNext, AreLanes}
use Rattle.priority_order.proofs.Decided.{contains_or_not, below_or_not}
use Rattle.priority_order.proofs.Lists.{at_contained}
use Rattle.priority_order.proofs.Placed.{some_top, EachNext, each_next-none, each_next-push, all_have, placed}
use Rattle.cost_graph.specs.declared.graph.Thread.{Thread}
use Rattle.cost_graph.specs.Graph.{CostGraph, vertex_total, vertex_priority, IsGraph}
use Rattle.cost_graph.proofs.Ends.{priority_below}
use Rattle.prompt_planner.specs.Lanes.{AreLanesOf}
use Rattle.prompt_planner.proofs.OwnLanes.{AreFirstLanes, one_more, own_lanes}

-- the least number with a property that each number has or not, if one below n has it
abbrev Least : (ℕ → Type 0) → Type 0
Least P = (a : ℕ) × P a × ((b : ℕ) → b < a → P b → ⊥)

pub least : (P : ℕ → Type 0) → ((a : ℕ) → P a ⊎ (P a → ⊥)) → (n : ℕ) → ((a : ℕ) × P a × ((b : ℕ) → b < a → P b → ⊥)) ⊎ ((b : ℕ) → b < n → P b → ⊥)
least P tells zero = inr (λ b lt. absurd (omega (arith, lt)))
least P tells (suc n) =
    elim (least P tells n) [
      | inl found ↦ inl found
      | inr none ↦ elim (tells n) [
        | inl here ↦ inl (n, here, none)
        | inr lacks ↦ inr (λ b lt h. elim (cases_eq b n) [ inl e ↦ lacks (subst P e h) | inr other ↦ none b (omega (arith, lt, other)) h ])
      ]
    ]

both_or_not : {P Q : Type 0} → P ⊎ (P → ⊥) → Q ⊎ (Q → ⊥) → (P × Q) ⊎ (P × Q → ⊥)
both_or_not (inl p) (inl q) = inl (p, q)
both_or_not (inl p) (inr q) = inr (λ h. q h.1)
both_or_not (inr p) y = inr (λ h. p h.0)

module _ (pairs : List (ℕ × ℕ)) (count : ℕ) (lawful : IsLawful pairs) where
  remains_or_not : (gone : List ℕ) (a : ℕ) → Remains count gone a ⊎ (Remains count gone a → ⊥)
  remains_or_not gone a =
      elim (cases_lt a count) [
        | inr past ↦ inr (λ r. omega (arith, past, r.0))
        | inl lt ↦ elim (contains_or_not gone a) [ inl there ↦ inr (λ r. r.1 there) | inr lacks ↦ inl (lt, lacks) ]
      ]

  top_or_not : (gone : List ℕ) (a : ℕ) → IsTop pairs count gone a ⊎ (IsTop pairs count gone a → ⊥)
  top_or_not gone a =
      elim (least (λ b. Remains count gone b × IsBelow pairs a b) (λ b. both_or_not (remains_or_not gone b) (below_or_not pairs a b)) count) [
        | inl found ↦ inr (λ top. top found.0 found.1.0 found.1.1)
        | inr none ↦ inl (λ b r below. none b r.0 (r, below))
      ]

  next_is : (gone : List ℕ) → length gone < count → (a : ℕ) × IsNext pairs count gone a
  next_is gone few =
      let t = some_top pairs count lawful gone few in
      let P : ℕ → Type 0 = λ a. Remains count gone a × IsTop pairs count gone a in
      elim (least P (λ a. both_or_not (remains_or_not gone a) (top_or_not gone a)) count) [
        | inr none ↦ absurd (none t.top t.within ((t.within, t.is), λ b r below. t.none b r.0 r.1 below))
        | inl found ↦ (
          found.0,
          record {
            remains = found.1.0;
            top = found.1.1;
            smallest = λ c r top. elim (cases_lt c found.0) [ inl less ↦ absurd (found.2 c less (r, top)) | inr more ↦ more ];
          },
        )
      ]

  some_lanes : (k : ℕ) → k ≤ count → (lanes : List ℕ) × (length lanes ≡ k) × EachNext pairs count lanes
  some_lanes zero le = ([], refl, each_next-none pairs count)
  some_lanes (suc k) le =
      let now = some_lanes k (omega (arith, le)) in
      let next = next_is now.0 (omega (arith, le, now.1)) in
      (now.0 ++ next.0 ∷ [], omega (arith, length-append now.0 (next.0 ∷ []), now.1), each_next-push pairs count now.0 now.2 next.0 next.1)

  all_lanes : (lanes : List ℕ) × AreLanes pairs count lanes
  all_lanes = let all = some_lanes count (omega arith) in (all.0, record { long = all.1; each = all.2 })

  module _ (g : CostGraph) (ok : IsGraph g) (priorities : All (λ (t : Thread). t.priority < count) g.threads) where
    first_lanes : (n : ℕ) → n ≤ vertex_total g → (lanes : List ℕ) × AreFirstLanes g pairs count lanes n
    first_lanes zero le = ([], record { covers = refl; each = λ v lt. absurd (omega (arith, lt)) })
    first_lanes (suc n) le =
        let now = first_lanes n (omega (arith, le)) in
        let lanes = all_lanes in
        let has = all_have pairs count lanes.0 lanes.1 (vertex_priority g n) (priority_below g count n ok priorities (omega (arith, le))) in
        let q = placed pairs count lanes.0 lanes.1 (vertex_priority g n) has.0 (at_contained lanes.0 (vertex_priority g n) has) in
        let next = one_more g pairs count now.0 n has.0 (now.0 ++ has.0 ∷ []) now.1 (record { is = q.is; only = q.only_lane; above = q.above }) refl in
        let same : n + 1 ≡ suc n = omega arith in
        (now.0 ++ has.0 ∷ [], subst (AreFirstLanes g pairs count (now.0 ++ has.0 ∷ [])) same next)

    -- the lanes of all vertices
    pub some_vertex_lanes : (lanes : List ℕ) × AreLanesOf g pairs count lanes
    some_vertex_lanes = let all = first_lanes (vertex_total g) (omega arith) in (all.0, own_lanes g pairs count all.0 all.1)
