-- The first and the last vertex of a thread.
use Rattle.std.proofs.Common.{◌≡◌, ℕ, zero, suc, ◌+◌, ◌-◌, ◌<◌, ◌≤◌, List, [], ◌∷◌, length, replicate, refl, sym, subst, arith}
use Rattle.std.specs.List.{flat_map, All}
use Rattle.std.proofs.lemmas.List.Elements.{All-append, All-from_get_or}
use Rattle.std.proofs.lemmas.List.{get_or-replicate, length-replicate}
use Rattle.std.proofs.lemmas.List.Sums.{sum_by_more_le}
use Rattle.cost_graph.specs.declared.graph.Thread.{Thread}
use Rattle.cost_graph.specs.Walks.{Reaches, ProperlyReaches, HasNoCycle}
use Rattle.cost_graph.specs.Graph.{CostGraph, Edge, no_thread, thread_at, thread_total, vertex_total, first_vertex, last_vertex, vertex_priority, IsGraph, IsOwner, IsAncestor}
use Rattle.cost_graph.proofs.Walks.{reaches_on}
use Rattle.cost_graph.proofs.Threads.{owner_priority, priorities_before}

-- the vertices of a thread are vertices
pub thread_within : (g : CostGraph) (t : ℕ) → IsGraph g → t < thread_total g → first_vertex g t + (thread_at g t).vertices ≤ vertex_total g
thread_within g t ok lt = omega (arith, ok.covers, sum_by_more_le (λ (x : Thread). x.vertices) g.threads t no_thread lt)

pub last_below : (g : CostGraph) (t : ℕ) → IsGraph g → t < thread_total g → last_vertex g t < vertex_total g
last_below g t ok lt = omega (arith, thread_within g t ok lt, ok.filled t lt)

pub first_owner : (g : CostGraph) (t : ℕ) → IsGraph g → t < thread_total g → IsOwner g (first_vertex g t) t
first_owner g t ok lt = record { within = lt; low = omega arith; high = omega (arith, ok.filled t lt) }

pub first_priority : (g : CostGraph) (t : ℕ) → IsGraph g → t < thread_total g → vertex_priority g (first_vertex g t) ≡ (thread_at g t).priority
first_priority g t ok lt = owner_priority g (first_vertex g t) t (first_owner g t ok lt)

along : (g : CostGraph) (t k : ℕ) → IsGraph g → t < thread_total g → k < (thread_at g t).vertices → Reaches (Edge g) (first_vertex g t) (first_vertex g t + k)
along g t zero ok lt k_lt = ([], omega arith)
along g t (suc k) ok lt k_lt =
    let before : k < (thread_at g t).vertices = omega (arith, k_lt) in
    let next : k + 1 < (thread_at g t).vertices = omega (arith, k_lt) in
    let e : first_vertex g t + k + 1 ≡ first_vertex g t + suc k = omega arith in
    reaches_on (Edge g) (first_vertex g t) (first_vertex g t + k) (first_vertex g t + suc k) (along g t k ok lt before)
    ((first_vertex g t + suc k) ∷ [], (subst (Edge g (first_vertex g t + k)) e (ok.goes_on t k lt next), refl))

-- the first vertex of a thread leads to its last
pub first_to_last : (g : CostGraph) (t : ℕ) → IsGraph g → t < thread_total g → IsAncestor g (first_vertex g t) (last_vertex g t)
first_to_last g t ok lt =
    let some = ok.filled t lt in
    let k : ℕ = (thread_at g t).vertices - 1 in
    let k_lt : k < (thread_at g t).vertices = omega (arith, some) in
    let e : first_vertex g t + k ≡ last_vertex g t = omega (arith, some) in
    subst (Reaches (Edge g) (first_vertex g t)) e (along g t k ok lt k_lt)

-- what leads back would close a cycle
pub no_way_back : (E : ℕ → ℕ → Type 0) (u v : ℕ) → HasNoCycle E → Reaches E u v → ProperlyReaches E v u → ⊥
no_way_back E u v none a (([], e), ne) = ne e
no_way_back E u v none a ((w ∷ ws, l), ne) =
    let round = reaches_on E w u v (ws, l.1) a in
    none v w round.0 (l.0, round.1)

same_all : (m p n : ℕ) → p < n → All (λ x. x < n) (replicate m p)
same_all m p n lt = All-from_get_or (λ x. x < n) (replicate m p) 0 (λ i i_lt. subst (λ x. x < n) (sym (get_or-replicate m i p 0 (omega (arith, i_lt, length-replicate m p)))) lt)

all_priorities : (ts : List Thread) (n : ℕ) → All (λ (x : Thread). x.priority < n) ts → All (λ x. x < n) (flat_map (λ (x : Thread). replicate x.vertices x.priority) ts)
all_priorities [] n h = λ k d lt. absurd (omega (arith, lt))
all_priorities (t ∷ ts) n h =
    let here : t.priority < n = h 0 t (omega arith) in
    let rest : All (λ (x : Thread). x.priority < n) ts = λ k d lt. h (suc k) d (omega (arith, lt)) in
    All-append (λ x. x < n) (replicate t.vertices t.priority) (flat_map (λ (x : Thread). replicate x.vertices x.priority) ts) (same_all t.vertices t.priority n here) (all_priorities ts n rest)

-- where the threads' priorities are below a number, so is one that a thread has
pub owned_below : (g : CostGraph) (n p : ℕ) → All (λ (x : Thread). x.priority < n) g.threads → (t : ℕ) × (t < thread_total g) × (p ≡ (thread_at g t).priority) → p < n
owned_below g n p below (t, lt, is) = subst (λ q. q < n) (sym is) (below t no_thread lt)

-- where the threads' priorities are below a number, so are the vertices'
pub priority_below : (g : CostGraph) (n v : ℕ) → IsGraph g → All (λ (x : Thread). x.priority < n) g.threads → v < vertex_total g → vertex_priority g v < n
priority_below g n v ok h lt =
    let long : v < length (flat_map (λ (x : Thread). replicate x.vertices x.priority) g.threads) = omega (arith, lt, ok.covers, priorities_before g.threads) in
    all_priorities g.threads n h v 0 long
