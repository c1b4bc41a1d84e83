-- The lanes of the vertices, read off an order one after the other.
use Rattle.std.proofs.Common.{◌⊎◌, ◌≡◌, ℕ, ◌+◌, ◌<◌, ◌≤◌, List, [], ◌∷◌, ◌++◌, length, get_or, sym, ◌∙◌, subst, arith, inl, inr}
use Rattle.std.proofs.lemmas.Bool.{cases_lt}
use Rattle.std.proofs.lemmas.List.{length-append, ext_get_or}
use Rattle.std.proofs.Math.ListN.{get_or-append}
use Rattle.std.proofs.Math.Seq.{get_or-append_seam}
use Rattle.priority_order.specs.Order.{HasLane, IsBelow}
use Rattle.cost_graph.specs.Graph.{CostGraph, vertex_total, vertex_priority}
use Rattle.prompt_planner.specs.Lanes.{LanesFit, AreLanesOf}

-- the only lane of a priority, and greater than that of each above it
pub record IsOwnLane (pairs : List (ℕ × ℕ)) (count a k : ℕ) : Type 0 where
  pub is : HasLane pairs count a k
  pub only : (j : ℕ) → HasLane pairs count a j → j ≡ k
  pub above : (b j : ℕ) → HasLane pairs count b j → IsBelow pairs a b → j < k

-- the lanes of the first vertices
pub record AreFirstLanes (g : CostGraph) (pairs : List (ℕ × ℕ)) (count : ℕ) (lanes : List ℕ) (n : ℕ) : Type 0 where
  pub covers : length lanes ≡ n
  pub each : (v : ℕ) → v < n → IsOwnLane pairs count (vertex_priority g v) (get_or lanes v 0)

module _ (g : CostGraph) (pairs : List (ℕ × ℕ)) (count : ℕ) where
  pub one_more : (lanes : List ℕ) (n k : ℕ) (next : List ℕ) → AreFirstLanes g pairs count lanes n → IsOwnLane pairs count (vertex_priority g n) k → next ≡ lanes ++ k ∷ [] → AreFirstLanes g pairs count next (n + 1)
  one_more lanes n k next now here e = subst (λ l. AreFirstLanes g pairs count l (n + 1)) (sym e) (record {
    covers = omega (arith, length-append lanes (k ∷ []), now.covers);
    each = λ v lt. go v lt (cases_lt v n);
  })
    where
      go : (v : ℕ) → v < n + 1 → (v < n) ⊎ (n ≤ v) → IsOwnLane pairs count (vertex_priority g v) (get_or (lanes ++ k ∷ []) v 0)
      go v lt (inl early) =
          let short : v < length lanes = omega (arith, early, now.covers) in
          subst (λ x. IsOwnLane pairs count (vertex_priority g v) x) (sym (get_or-append lanes (k ∷ []) 0 v short)) (now.each v early)
      go v lt (inr late) =
          let same : length lanes ≡ v = omega (arith, lt, late, now.covers) in
          let same' : n ≡ v = omega (arith, lt, late) in
          subst (λ x. IsOwnLane pairs count (vertex_priority g x) (get_or (lanes ++ k ∷ []) x 0)) same
          (subst (λ x. IsOwnLane pairs count (vertex_priority g (length lanes)) x) (sym (get_or-append_seam lanes k [] 0))
          (subst (λ x. IsOwnLane pairs count (vertex_priority g x) k) (same' ∙ sym same) here))

  module _ (lanes : List ℕ) (all : AreFirstLanes g pairs count lanes (vertex_total g)) where
    pub own_lanes : AreLanesOf g pairs count lanes
    own_lanes = record { covers = all.covers; each = λ v lt. (all.each v lt).is }

    pub lanes_fit : LanesFit g pairs lanes
    lanes_fit v u small high b = (all.each v small).above (vertex_priority g u) (get_or lanes u 0) (all.each u high).is b

    pub one_lanes : (other : List ℕ) → AreLanesOf g pairs count other → other ≡ lanes
    one_lanes other o = ext_get_or 0 other lanes (o.covers ∙ sym all.covers) (λ v lt. let in_graph : v < vertex_total g = omega (arith, lt, o.covers) in (all.each v in_graph).only (get_or other v 0) (o.each v in_graph))
