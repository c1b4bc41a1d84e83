-- The first vertex of a thread is the first of a segment, and the last the last of one.
use Rattle.std.proofs.Common.{◌≡◌, ℕ, ◌+◌, ◌-◌, ◌<◌, List, length, get_or, map, sym, subst, inl, inr, arith}
use Rattle.std.specs.List.{All}
use Rattle.std.proofs.lemmas.Bool.{cases_lt}
use Rattle.std.proofs.lemmas.List.{get_or-map, length-map}
use Rattle.std.proofs.lemmas.List.Elements.{All-from_get_or}
use Rattle.cost_graph.specs.Graph.{CostGraph, IsGraph, IsOwner, thread_total, first_vertex, last_vertex}
use Rattle.cost_graph.proofs.Ends.{first_owner, last_below}
use Rattle.cost_graph.proofs.Threads.{one_owner}
use Rattle.span_bound.specs.Inside.Segments.{AreSegmentsOf, last_of}
use Rattle.span_bound.proofs.Grouped.{first_below}
use Rattle.span_bound.proofs.Kinship.{next_follows}

-- what holds of the image of each thread holds of all of them
pub all_images : (P : ℕ → Type 0) (f : ℕ → ℕ) (threads : List ℕ) (n : ℕ) → ((t : ℕ) → t < n → P (f t)) → All (λ t. t < n) threads → All P (map f threads)
all_images P f threads n each h =
    All-from_get_or P (map f threads) 0
    (λ k lt. let k_in : k < length threads = let e = length-map threads f in omega (arith, lt, e) in
    subst P (sym (get_or-map f threads k 0 0 k_in)) (each (get_or threads k 0) (h k 0 k_in)))

module _ (g : CostGraph) (heads lens slots : List ℕ) (ok : IsGraph g) (cut : AreSegmentsOf g heads lens slots) where
  pub first_is_head : (t : ℕ) → t < thread_total g → get_or heads (get_or slots (first_vertex g t) 0) 0 ≡ first_vertex g t
  first_is_head t lt =
      let f = first_vertex g t in
      let at = cut.stands f (first_below g t ok lt) in
      let s = get_or slots f 0 in
      elim (cases_lt (get_or heads s 0) f) [
        | inl more ↦
            let follows = cut.follows s f at.0 at.1 more in
            let same = one_owner g f follows.thread t follows.owns (first_owner g t ok lt) in
            let before = (subst (IsOwner g (f - 1)) same follows.owns_before).low in
            absurd (omega (arith, before, follows.some))
        | inr less ↦ omega (arith, less, at.1.0)
      ]

  pub last_is_last : (t : ℕ) → t < thread_total g → last_of heads lens (get_or slots (last_vertex g t) 0) ≡ last_vertex g t
  last_is_last t lt =
      let l = last_vertex g t in
      let filled = ok.filled t lt in
      let at = cut.stands l (last_below g t ok lt) in
      let s = get_or slots l 0 in
      elim (cases_lt l (last_of heads lens s)) [
        | inl more ↦
            let follows = next_follows g heads lens slots ok cut s l at.0 at.1 more in
            let back : l + 1 - 1 ≡ l = omega arith in
            let owner : IsOwner g l t = record { within = lt; low = omega (arith, filled); high = omega (arith, filled) } in
            let same = one_owner g l follows.thread t (subst (λ v. IsOwner g v follows.thread) back follows.owns_before) owner in
            let high = (subst (IsOwner g (l + 1)) same follows.owns).high in
            absurd (omega (arith, high, filled))
        | inr less ↦ omega (arith, less, at.1.1)
      ]
