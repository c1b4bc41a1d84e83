-- What shows that a thread is not well formed.
use Rattle.std.proofs.Common.{ℕ, ◌<◌, ◌≤◌, List, [], ◌∷◌, sym, subst, arith}
use Rattle.cost_graph.specs.Graph.{CostGraph, vertex_total, thread_total, last_vertex, IsGraph, IsAncestor, IsThreadWellFormed}
use Rattle.cost_graph.specs.Inside.Shape.{IsFit}
use Rattle.cost_graph.proofs.Ends.{last_below}

-- an ancestor is a vertex
pub ancestor_below : (g : CostGraph) (u v : ℕ) → IsGraph g → v < vertex_total g → IsAncestor g u v → u < vertex_total g
ancestor_below g u v ok lt ([], e) = subst (λ x. x < vertex_total g) (sym e) lt
ancestor_below g u v ok lt (w ∷ ws, l) = ok.ends u w l.0

pub all_fit : (g : CostGraph) (pairs : List (ℕ × ℕ)) (t n : ℕ) → IsGraph g → t < thread_total g → vertex_total g ≤ n → ((w : ℕ) → w < n → IsFit g pairs t w) → IsThreadWellFormed g pairs t
all_fit g pairs t n ok lt le h u above apart =
    let below = ancestor_below g u (last_vertex g t) ok (last_below g t ok lt) above in
    h u (omega (arith, below, le)) above apart
