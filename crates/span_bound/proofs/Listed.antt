-- Lists of the slots of vertices, segment by segment.
use Rattle.std.proofs.Common.{◌≡◌, ℕ, ◌+◌, ◌<◌, List, [], ◌∷◌, ◌++◌, length, get_or, sym, ap, ◌∙◌, inl, inr, arith}
use Rattle.std.specs.List.{All}
use Rattle.std.specs.declared.vec.Vec.{Vec}
use Rattle.std.specs.declared.alloc.Global.{Global}
use Rattle.std.proofs.lemmas.Bool.{cases_eq}
use Rattle.std.proofs.lemmas.List.{map-append, length-map, get_or-map, get_or_push, get_or_append_left}
use Rattle.std.proofs.lemmas.List.Elements.{All-from_get_or, Contains-get_or}
use Rattle.cost_graph.specs.Graph.{CostGraph, IsGraph, vertex_total, parents_at}
use Rattle.cost_graph.specs.View.{lists}
use Rattle.span_bound.specs.Inside.Segments.{AreSegmentsOf, last_of}

pub listed_more : (F : ℕ → List ℕ) (xs : List (Vec ℕ Global)) (y : Vec ℕ Global) (n : ℕ) → length xs ≡ n → ((s : ℕ) → s < n → get_or (lists xs) s [] ≡ F s) → y.items ≡ F n
    → (s : ℕ) → s < n + 1 → get_or (lists (xs ++ y ∷ [])) s [] ≡ F s
listed_more F xs y n long old e s lt =
    let more : lists (xs ++ y ∷ []) ≡ lists xs ++ y.items ∷ [] = map-append (λ (l : Vec ℕ Global). l.items) xs (y ∷ []) in
    let size : length (lists xs) ≡ n = length-map xs (λ (l : Vec ℕ Global). l.items) ∙ long in
    ap (λ l. get_or l s []) more ∙ elim (cases_eq s n) [
      | inl same ↦ ap (λ k. get_or (lists xs ++ y.items ∷ []) k []) same ∙ get_or_push (lists xs) y.items [] n size ∙ e ∙ ap F (sym same)
      | inr ne ↦ get_or_append_left (lists xs) (y.items ∷ []) [] s (omega (arith, lt, ne, size)) ∙ old s (omega (arith, lt, ne))
    ]

-- a segment's first and last vertex are vertices
pub head_below : (g : CostGraph) (heads lens slots : List ℕ) (s : ℕ) → AreSegmentsOf g heads lens slots → s < length heads → get_or heads s 0 < vertex_total g
head_below g heads lens slots s cut lt = (cut.own s (get_or heads s 0) lt (omega arith, omega (arith, cut.filled s lt))).0

pub last_below : (g : CostGraph) (heads lens slots : List ℕ) (s : ℕ) → AreSegmentsOf g heads lens slots → s < length heads → last_of heads lens s < vertex_total g
last_below g heads lens slots s cut lt = (cut.own s (last_of heads lens s) lt (omega (arith, cut.filled s lt), omega (arith, cut.filled s lt))).0

pub heads_below : (g : CostGraph) (heads lens slots : List ℕ) → AreSegmentsOf g heads lens slots → All (λ v. v < vertex_total g) heads
heads_below g heads lens slots cut = All-from_get_or (λ v. v < vertex_total g) heads 0 (λ k lt. head_below g heads lens slots k cut lt)

pub parents_below : (g : CostGraph) (v : ℕ) → IsGraph g → All (λ u. u < vertex_total g) (parents_at g v)
parents_below g v ok = All-from_get_or (λ u. u < vertex_total g) (parents_at g v) 0 (λ k lt. ok.ends (get_or (parents_at g v) k 0) v (Contains-get_or (parents_at g v) k 0 lt))

-- a list that was read of lists
pub list_read : (xs : List (Vec ℕ Global)) (x : Vec ℕ Global) (s : ℕ) → s < length xs → get_or xs s x ≡ x → get_or (lists xs) s [] ≡ x.items
list_read xs x s lt e = get_or-map (λ (l : Vec ℕ Global). l.items) xs s x [] lt ∙ ap (λ (l : Vec ℕ Global). l.items) e
