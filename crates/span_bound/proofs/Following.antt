-- When a vertex follows the one before it in a segment.
use Rattle.std.proofs.Common.{◌≡◌, ℕ, ◌+◌, ◌-◌, ◌<◌, List, [], ◌∷◌, length, sym, ◌∙◌, subst, inl, inr, arith}
use Rattle.std.specs.List.{Contains}
use Rattle.cost_graph.specs.Graph.{CostGraph, Edge, IsGraph, IsOwner, first_vertex, parents_at, children_at}
use Rattle.cost_graph.proofs.Members.{no_member, member_cons}
use Rattle.cost_graph.proofs.ReadyNext.{child_of}
use Rattle.span_bound.specs.Inside.Segments.{Follows}

-- all members of a list of one are the same
one_member : (xs : List ℕ) (a b : ℕ) → length xs ≡ 1 → Contains xs a → Contains xs b → a ≡ b
one_member [] a b e p q = absurd (no_member a p)
one_member (x ∷ []) a b e p q = sym (only a p) ∙ only b q
  where
    only : (c : ℕ) → Contains (x ∷ []) c → x ≡ c
    only c m = elim (member_cons x [] c m) [ inl s ↦ s | inr z ↦ absurd (no_member c z) ]
one_member (x ∷ y ∷ ys) a b e p q = absurd (omega (arith, e))

pub follows_if : (g : CostGraph) (v t : ℕ) → IsGraph g → IsOwner g v t → (first_vertex g t ≡ v → ⊥) → length (parents_at g v) ≡ 1 → length (children_at g (v - 1)) ≡ 1 → Follows g v
follows_if g v t ok owns later one_parent one_child = record {
  some = more;
  edge = edge;
  parent = λ p e. one_member (parents_at g v) p (v - 1) one_parent e edge;
  child = λ c e. one_member (children_at g (v - 1)) c v one_child (child_of g (v - 1) c e) (child_of g (v - 1) v edge);
  thread = t;
  owns = owns;
  owns_before = record { within = owns.within; low = omega (arith, below); high = omega (arith, owns.high) };
}
  where
    below : first_vertex g t < v
    below = let ne = later in omega (arith, owns.low, ne)

    more : 0 < v
    more = omega (arith, below)

    edge : Edge g (v - 1) v
    edge =
        let k : ℕ = v - first_vertex g t - 1 in
        let from : first_vertex g t + k ≡ v - 1 = omega (arith, below) in
        let to : first_vertex g t + k + 1 ≡ v = omega (arith, below) in
        subst (λ x. Edge g x v) from (subst (Edge g (first_vertex g t + k)) to (ok.goes_on t k owns.within (omega (arith, owns.high, below))))
