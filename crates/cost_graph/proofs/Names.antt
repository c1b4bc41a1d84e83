-- The name of a vertex from its thread and its number there.
use Rattle.std.proofs.Common.{◌≡◌, ℕ, zero, suc, ◌+◌, ◌-◌, ◌<◌, ◌≤◌, List, [], ◌∷◌, length, take, get_or, sym, ◌∙◌, arith}
use Rattle.std.specs.Prelude.{nat_lt}
use Rattle.std.specs.List.{sum_by}
use Rattle.std.proofs.lemmas.Bool.{lt-ltb, le-ltb, cond-true, cond-false}
use Rattle.std.proofs.lemmas.List.Sums.{sum_by-cons}
use Rattle.cost_graph.specs.declared.graph.Thread.{Thread}
use Rattle.cost_graph.specs.Graph.{CostGraph, Vertex, no_thread, thread_at, first_vertex, IsOwner, name_in, name_of}

pub name_here : (ts : List Thread) (t k v : ℕ) → t < length ts → k < (get_or ts t no_thread).vertices → v ≡ sum_by (λ (x : Thread). x.vertices) (take t ts) + k → name_in ts v ≡ record { path = (get_or ts t no_thread).path; number = k }
name_here [] t k v lt k_lt e = absurd (omega (arith, lt))
name_here (x ∷ ts) zero k v lt k_lt e =
    let same : v ≡ k = omega (arith, e) in
    rw same (cond-true {A = Vertex} (nat_lt k x.vertices) (record { path = x.path; number = k }) (name_in ts (k - x.vertices)) (lt-ltb k x.vertices k_lt))
name_here (x ∷ ts) (suc t) k v lt k_lt e =
    let whole = sum_by-cons (λ (y : Thread). y.vertices) x (take t ts) in
    let past : x.vertices ≤ v = omega (arith, e, whole) in
    let rest : v - x.vertices ≡ sum_by (λ (y : Thread). y.vertices) (take t ts) + k = omega (arith, e, whole) in
    cond-false {A = Vertex} (nat_lt v x.vertices) (record { path = x.path; number = v }) (name_in ts (v - x.vertices)) (le-ltb v x.vertices past) ∙ name_here ts t k (v - x.vertices) (omega (arith, lt)) k_lt rest

-- the name of a vertex of a thread
pub owned_name : (g : CostGraph) (v t k : ℕ) → IsOwner g v t → first_vertex g t + k ≡ v → name_of g v ≡ record { path = (thread_at g t).path; number = k }
owned_name g v t k own e = name_here g.threads t k v own.within (omega (arith, own.high, e)) (sym e)
