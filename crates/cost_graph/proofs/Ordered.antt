-- No cycle leads to vertices that stand in an order after their parents.
use Rattle.std.proofs.Common.{◌≡◌, ℕ, suc, ◌<◌, ◌≤◌, List, [], ◌∷◌, length, take, drop, get_or, refl, sym, ◌∙◌, subst, inl, inr, arith}
use Rattle.std.specs.Prelude.{nat_eq, nat_lt, MatchBool}
use Rattle.std.specs.List.{Contains, IsDistinct}
use Rattle.std.proofs.lemmas.List.{take-append-drop, get_or-take, length-take, get_or_default}
use Rattle.std.proofs.lemmas.List.Elements.{Contains-append_left, Contains-get_or}
use Rattle.std.proofs.Math.Seq.{drop-cons}
use Rattle.std.proofs.lemmas.Bool.{lt-ltb, le-ltb}
use Rattle.cost_graph.specs.Walks.{Leads}
use Rattle.cost_graph.specs.Graph.{CostGraph, vertex_total, Edge, IsGraph, IsAcyclic}
use Rattle.cost_graph.specs.Order.{IsTopological, IsCyclic, IsBehindCycle, IsSortedOrStuck}
use Rattle.cost_graph.proofs.Members.{member_head, distinct_apart}

-- the place of a member of a front
place_in : (order : List ℕ) (i u : ℕ) → Contains (take i order) u → (j : ℕ) × (j < i) × (j < length order) × (get_or order j 0 ≡ u)
place_in order i u c =
    let long = length-take i order in
    let j_lt : c.0 < i = omega (arith, c.1, long) in
    let in_lt : c.0 < length order = omega (arith, c.1, long) in
    let at : get_or (take i order) c.0 0 ≡ u = get_or_default (take i order) c.0 0 u c.1 ∙ c.2 in
    (c.0, j_lt, in_lt, sym (get_or-take i order c.0 0 j_lt) ∙ at)

shorter : (order : List ℕ) (j i u : ℕ) → j ≤ i → Contains (take j order) u → Contains (take i order) u
shorter order j i u le c =
    let p = place_in order j u c in
    let lt : p.0 < length (take i order) = omega (arith, length-take i order, p.1, p.2, le) in
    subst (Contains (take i order)) (get_or-take i order p.0 0 (omega (arith, p.1, le)) ∙ p.3) (Contains-get_or (take i order) p.0 0 lt)

-- each vertex of the order stands after its parents, and once
module _ (g : CostGraph) (order : List ℕ) (after : (i u : ℕ) → i < length order → Edge g u (get_or order i 0) → Contains (take i order) u) (once : IsDistinct nat_eq order) where
  walked : (ws : List ℕ) (u w v i : ℕ) → Leads (Edge g) u (w ∷ ws) v → i < length order → get_or order i 0 ≡ v → Contains (take i order) u
  walked [] u w v i l lt at = after i u lt (subst (Edge g u) (l.1 ∙ sym at) l.0)
  walked (x ∷ xs) u w v i l lt at =
      let p = place_in order i w (walked xs w x v i l.1 lt at) in
      shorter order p.0 i u (omega (arith, p.1)) (after p.0 u p.2 (subst (Edge g u) (sym p.3) l.0))

  place_of : (v : ℕ) → Contains order v → (i : ℕ) × (i < length order) × (get_or order i 0 ≡ v)
  place_of v c = (c.0, c.1, get_or_default order c.0 0 v c.1 ∙ c.2)

  -- no cycle goes through a vertex of the order
  no_cycle_through : (v w : ℕ) (ws : List ℕ) → Contains order v → Leads (Edge g) v (w ∷ ws) v → ⊥
  no_cycle_through v w ws c l =
      let p = place_of v c in
      let before = walked ws v w v p.0 l p.1 p.2 in
      let behind : Contains (drop p.0 order) v = subst (λ l. Contains l v) (sym (drop-cons order p.0 0 p.1)) (subst (λ h. Contains (h ∷ drop (suc p.0) order) v) (sym p.2) (member_head v (drop (suc p.0) order))) in
      distinct_apart (take p.0 order) (drop p.0 order) v (subst (IsDistinct nat_eq) (sym (take-append-drop p.0 order)) once) before behind

  -- an ancestor of a vertex of the order is one too
  ancestor_in : (ws : List ℕ) (u v : ℕ) → Leads (Edge g) u ws v → Contains order v → Contains order u
  ancestor_in [] u v l c = subst (Contains order) (sym l) c
  ancestor_in (w ∷ ws) u v l c =
      let p = place_of v c in
      subst (λ l. Contains l u) (take-append-drop p.0 order) (Contains-append_left (take p.0 order) (drop p.0 order) u (walked ws u w v p.0 l p.1 p.2))

  -- no cycle leads to a vertex of the order
  pub in_order_free : (v : ℕ) → Contains order v → IsBehindCycle g v → ⊥
  in_order_free v c h = no_cycle_through h.0 h.1 h.2 (ancestor_in h.4.0 h.0 v h.4.1 c) h.3

-- where all vertices stand in such an order, there is no cycle
pub ordered_acyclic : (g : CostGraph) (order : List ℕ) → IsTopological g order → IsGraph g → IsAcyclic g
ordered_acyclic g order topo ok v w ws l = in_order_free g order topo.after topo.once v ((topo.all v).0 (ok.ends v w l.0)) (v, w, ws, l, ([], refl))

-- whether the order is short tells whether there is a cycle
pub cycle_told : (g : CostGraph) (order : List ℕ) (m n : ℕ) → IsSortedOrStuck g order → m ≡ length order → n ≡ vertex_total g → MatchBool (nat_lt m n) (IsCyclic (Edge g)) (IsAcyclic g)
cycle_told g order m n h long whole =
    elim h [
      | inl t ↦ subst (λ b. MatchBool b (IsCyclic (Edge g)) (IsAcyclic g)) (sym (le-ltb m n (omega (arith, t.2, long, whole)))) t.1
      | inr s ↦ subst (λ b. MatchBool b (IsCyclic (Edge g)) (IsAcyclic g)) (sym (lt-ltb m n (omega (arith, s.1, long, whole)))) s.0
    ]
