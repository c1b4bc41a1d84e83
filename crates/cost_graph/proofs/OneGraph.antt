-- Threads have just one graph.
use Rattle.std.proofs.Common.{◌≡◌, ℕ, suc, ◌+◌, ◌<◌, List, [], ◌∷◌, length, get_or, refl, sym, ap, ◌∙◌, subst, inl, inr, arith}
use Rattle.std.specs.Prelude.{slice_index}
use Rattle.std.specs.List.{Contains, sum_by}
use Rattle.std.specs.List.Sorted.{IsStrictlyIncreasing}
use Rattle.std.proofs.lemmas.List.{ext_get_or, get_or_default}
use Rattle.std.proofs.lemmas.List.Kept.{AllPairs-from_increasing}
use Rattle.cost_graph.specs.declared.graph.Thread.{Thread}
use Rattle.cost_graph.specs.Graph.{CostGraph, Edge, Vertex, vertex_total, name_of, name_in}
use Rattle.cost_graph.specs.Records.{Part, IsEdge, IsGraphOf}
use Rattle.cost_graph.proofs.Members.{no_member, member_cons, member_head, member_tail}

rises_tail : (x : ℕ) (xs : List ℕ) → IsStrictlyIncreasing (x ∷ xs) → IsStrictlyIncreasing xs
rises_tail x xs h k lt =
    let same : suc k + 1 ≡ suc (k + 1) = omega arith in
    let less : slice_index (x ∷ xs) (suc k) < slice_index (x ∷ xs) (suc k + 1) = h (suc k) (omega (arith, lt)) in
    subst (λ j. slice_index xs k < slice_index (x ∷ xs) j) same less

rises_head : (x : ℕ) (xs : List ℕ) (u : ℕ) → IsStrictlyIncreasing (x ∷ xs) → Contains xs u → x < u
rises_head x xs u h c =
    let below : suc c.0 < length (x ∷ xs) = omega (arith, c.1) in
    let less : x < get_or xs c.0 0 = AllPairs-from_increasing (x ∷ xs) h 0 (suc c.0) 0 (omega arith) below in
    let at : get_or xs c.0 0 ≡ u = get_or_default xs c.0 0 u c.1 ∙ c.2 in
    omega (arith, less, at)

same_rising : (xs ys : List ℕ) → IsStrictlyIncreasing xs → IsStrictlyIncreasing ys → ((u : ℕ) → Contains xs u → Contains ys u) → ((u : ℕ) → Contains ys u → Contains xs u) → xs ≡ ys
same_rising [] [] a b to from = refl
same_rising [] (y ∷ ys) a b to from = absurd (no_member y (from y (member_head y ys)))
same_rising (x ∷ xs) [] a b to from = absurd (no_member x (to x (member_head x xs)))
same_rising (x ∷ xs) (y ∷ ys) a b to from =
    let head : x ≡ y =
    elim (member_cons y ys x (to x (member_head x xs))) [
      | inl e ↦ sym e
      | inr later ↦ elim (member_cons x xs y (from y (member_head y ys))) [
        | inl e ↦ e
        | inr late ↦ absurd (omega (arith, rises_head y ys x b later, rises_head x xs y a late))
      ]
    ] in
    let to_tail : (u : ℕ) → Contains xs u → Contains ys u = λ u c.
    elim (member_cons y ys u (to u (member_tail x xs u c))) [ inl e ↦ absurd (omega (arith, rises_head x xs u a c, head, e)) | inr d ↦ d ] in
    let from_tail : (u : ℕ) → Contains ys u → Contains xs u = λ u c.
    elim (member_cons x xs u (from u (member_tail y ys u c))) [ inl e ↦ absurd (omega (arith, rises_head y ys u b c, head, e)) | inr d ↦ d ] in
    ap (λ z. z ∷ xs) head ∙ ap (λ l. y ∷ l) (same_rising xs ys (rises_tail x xs a) (rises_tail y ys b) to_tail from_tail)

module _ (xs : List Part) (g h : CostGraph) (a : IsGraphOf xs g) (b : IsGraphOf xs h) where
  same_threads : g.threads ≡ h.threads
  same_threads = a.threads ∙ sym b.threads

  same_total : vertex_total g ≡ vertex_total h
  same_total = sym a.kept.covers ∙ ap (sum_by (λ (x : Thread). x.vertices)) same_threads ∙ b.kept.covers

  same_name : (u : ℕ) → name_of g u ≡ name_of h u
  same_name u = ap (λ (ts : List Thread). name_in ts u) same_threads

pub edge_over : (xs : List Part) (g h : CostGraph) → IsGraphOf xs g → IsGraphOf xs h → (u v : ℕ) → v < vertex_total g → Edge g u v → Edge h u v
edge_over xs g h a b u v v_lt e =
    let u_lt = a.kept.ends u v e in
    let total = same_total xs g h a b in
    let named = (a.edges u v u_lt v_lt).0 e in
    let first : IsEdge xs (name_of h u) (name_of g v) = subst (λ (w : Vertex). IsEdge xs w (name_of g v)) (same_name xs g h a b u) named in
    let both : IsEdge xs (name_of h u) (name_of h v) = subst (IsEdge xs (name_of h u)) (same_name xs g h a b v) first in
    (b.edges u v (omega (arith, u_lt, total)) (omega (arith, v_lt, total))).1 both

pub one_graph : (xs : List Part) (g h : CostGraph) → IsGraphOf xs g → IsGraphOf xs h → g ≡ h
one_graph xs g h a b =
    let total = same_total xs g h a b in
    let parents : g.parents ≡ h.parents = ext_get_or [] g.parents h.parents total (λ v v_lt.
    same_rising (get_or g.parents v []) (get_or h.parents v []) (a.kept.rising v) (b.kept.rising v) (λ u e. edge_over xs g h a b u v v_lt e)
    (λ u e. edge_over xs h g b a u v (omega (arith, v_lt, total)) e)) in
    ap (λ (ts : List Thread). let k : CostGraph = record { threads = ts; parents = g.parents } in k) (same_threads xs g h a b) ∙ ap (λ (ps : List (List ℕ)). let k : CostGraph = record { threads = h.threads; parents = ps } in k) parents
