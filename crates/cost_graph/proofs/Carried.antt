-- What holds of the edges of records holds of their graph: walks go over from names to numbers and back.
use Rattle.std.proofs.Common.{◌≡◌, ◌↔◌, ℕ, ◌+◌, ◌-◌, ◌<◌, List, [], ◌∷◌, length, map, take, get_or, refl, sym, ap, ◌∙◌, subst, inl, inr, arith}
use Rattle.std.specs.Prelude.{Some}
use Rattle.std.specs.List.{sum_by, Contains}
use Rattle.std.proofs.lemmas.Bool.{cases_lt}
use Rattle.std.proofs.lemmas.List.{length-map, get_or_past}
use Rattle.std.proofs.lemmas.Option.{slice_get_within}
use Rattle.priml_syntax.specs.declared.event.Event.TheVariants.{Spawn, Join}
use Rattle.priority_order.specs.Order.{AtMost}
use Rattle.cost_graph.specs.declared.graph.Thread.{Thread}
use Rattle.cost_graph.specs.Walks.{Leads, Reaches}
use Rattle.cost_graph.specs.Graph.{CostGraph, Edge, Vertex, no_thread, vertex_total, thread_total, thread_at, first_vertex, last_vertex, vertex_priority, name_of, name_in, IsGraph, IsOwner, IsAncestor, IsAcyclic, IsWellFormed}
use Rattle.cost_graph.specs.Records.{Part, part_at, event_total, thread_of, start_of, end_of, IsVertex, IsEdge, IsAcyclicGraph, IsWellFormedGraph, IsGraphOf}
use Rattle.cost_graph.specs.Inside.Tables.{part_nth, first_in, IsNumber}
use Rattle.cost_graph.proofs.Threads.{owner_priority}
use Rattle.cost_graph.proofs.Ends.{last_below, thread_within}
use Rattle.cost_graph.proofs.Members.{no_member}
use Rattle.cost_graph.proofs.Parts.{AreApart, one_part, part_found, part_here, one_number, number_named, number_small, numbered, name_at, thread_nth, firsts_same, totals_same}

-- a vertex of the threads has a number
pub vertex_number : (xs : List Part) (v : Vertex) → IsVertex xs v → (a : ℕ) × IsNumber xs v a
vertex_number xs v h =
    let found = part_found xs v.path h.0 h.1 in
    let below : v.number < length (part_nth xs found.0).events = subst (λ (x : Part). v.number < length x.events) (sym found.2) h.2 in
    (first_in xs found.0 + v.number, record { thread = found.0; within = found.1; path_is = ap (λ (x : Part). x.path) found.2 ∙ found.3; below = below; is = refl })

-- an edge leads to a vertex
target : (xs : List Part) (u v : Vertex) → IsEdge xs u v → IsVertex xs v
target xs u v (inl h) = h.0
target xs u v (inr (inl h)) = h.3
target xs u v (inr (inr h)) = (h.0, h.2, slice_get_within h.0.events v.number (Join u.path) h.3)

-- and comes from one
source : (xs : List Part) (u v : Vertex) → IsEdge xs u v → IsVertex xs u
source xs u v (inl h) = (h.0.0, ap (part_at xs) h.1 ∙ h.0.1, omega (arith, h.0.2, h.2))
source xs u v (inr (inl h)) = (h.0, h.1, slice_get_within h.0.events u.number Spawn h.2)
source xs u v (inr (inr h)) = (h.1, h.4, omega (arith, h.5))

-- an edge joins vertices
edge_ends : (g : CostGraph) (u v : ℕ) → IsGraph g → Edge g u v → (u < vertex_total g) × (v < vertex_total g)
edge_ends g u v ok e =
    elim (cases_lt v (vertex_total g)) [
      | inl early ↦ (ok.ends u v e, early)
      | inr late ↦ absurd (no_member u (subst (λ (l : List ℕ). Contains l u) (get_or_past g.parents v [] late) e))
    ]

module _ (xs : List Part) (apart : AreApart xs) (g : CostGraph) (h : IsGraphOf xs g) where
  pub total : vertex_total g ≡ event_total xs
  total = sym h.kept.covers ∙ ap (sum_by (λ (x : Thread). x.vertices)) h.threads ∙ totals_same xs

  pub name_is : (a : ℕ) → name_of g a ≡ name_in (map thread_of xs) a
  name_is a = ap (λ ts. name_in ts a) h.threads

  pub number_of_name : (a : ℕ) → a < vertex_total g → IsNumber xs (name_of g a) a
  number_of_name a lt = subst (λ (v : Vertex). IsNumber xs v a) (sym (name_is a)) (numbered xs a (omega (arith, lt, total)))

  -- a walk by numbers is one by names
  named_walk : (a : ℕ) (ws : List ℕ) (b : ℕ) → Leads (Edge g) a ws b → Leads (IsEdge xs) (name_of g a) (map (name_of g) ws) (name_of g b)
  named_walk a [] b e = ap (name_of g) e
  named_walk a (w ∷ ws) b e =
      let ends = edge_ends g a w h.kept e.0 in
      ((h.edges a w ends.0 ends.1).0 e.0, named_walk w ws b e.1)

  -- and back
  numbered_walk : (a : ℕ) (ws : List Vertex) (b : ℕ) → a < vertex_total g → b < vertex_total g → Leads (IsEdge xs) (name_of g a) ws (name_of g b) → Reaches (Edge g) a b
  numbered_walk a [] b a_lt b_lt e =
      let mine : IsNumber xs (name_of g b) a = subst (λ (v : Vertex). IsNumber xs v a) e (number_of_name a a_lt) in
      ([], one_number xs (name_of g b) a b apart mine (number_of_name b b_lt))
  numbered_walk a (w ∷ ws) b a_lt b_lt e =
      let found = vertex_number xs w (target xs (name_of g a) w e.0) in
      let c : ℕ = found.0 in
      let c_lt : c < vertex_total g = omega (arith, number_small xs w found.0 found.1, total) in
      let named : w ≡ name_of g c = sym (name_is c ∙ number_named xs w found.0 found.1) in
      let edge : Edge g a c = (h.edges a c a_lt c_lt).1 (subst (IsEdge xs (name_of g a)) named e.0) in
      let rest = numbered_walk c ws b c_lt b_lt (subst (λ (v : Vertex). Leads (IsEdge xs) v ws (name_of g b)) named e.1) in
      (c ∷ rest.0, (edge, rest.1))

  carried_acyclic : IsAcyclicGraph xs → IsAcyclic g
  carried_acyclic none v w ws e = none (name_of g v) (name_of g w) (map (name_of g) ws) (named_walk v (w ∷ ws) v e)

  back_acyclic : IsAcyclic g → IsAcyclicGraph xs
  back_acyclic none v w ws e =
      let from = vertex_number xs v (source xs v w e.0) in
      let a : ℕ = from.0 in
      let a_lt : a < vertex_total g = omega (arith, number_small xs v from.0 from.1, total) in
      let named : v ≡ name_of g a = sym (name_is a ∙ number_named xs v from.0 from.1) in
      let walk : Leads (IsEdge xs) (name_of g a) (w ∷ ws) (name_of g a) = subst (λ (x : Vertex). Leads (IsEdge xs) x (w ∷ ws) x) named e in
      let to = vertex_number xs w (target xs v w e.0) in
      let c : ℕ = to.0 in
      let c_lt : c < vertex_total g = omega (arith, number_small xs w to.0 to.1, total) in
      let next : w ≡ name_of g c = sym (name_is c ∙ number_named xs w to.0 to.1) in
      let edge : Edge g a c = (h.edges a c a_lt c_lt).1 (subst (IsEdge xs (name_of g a)) next walk.0) in
      let rest = numbered_walk c ws a c_lt a_lt (subst (λ (x : Vertex). Leads (IsEdge xs) x ws (name_of g a)) next walk.1) in
      none a c rest.0 (edge, rest.1)

  -- there is a cycle among the records exactly where there is one in the graph
  pub same_acyclic : IsAcyclicGraph xs ↔ IsAcyclic g
  same_acyclic = (carried_acyclic, back_acyclic)

  pub thread_is : (t : ℕ) → t < thread_total g → t < length xs
  thread_is t lt = omega (arith, lt, ap (λ (ts : List Thread). length ts) h.threads, length-map xs thread_of)

  pub thread_same : (t : ℕ) → t < length xs → thread_at g t ≡ thread_of (part_nth xs t)
  thread_same t lt = ap (λ ts. get_or ts t no_thread) h.threads ∙ thread_nth xs t lt

  pub first_same : (t : ℕ) → first_vertex g t ≡ first_in xs t
  first_same t = ap (λ ts. sum_by (λ (x : Thread). x.vertices) (take t ts)) h.threads ∙ firsts_same xs t

  -- the start of a walk to a vertex is a vertex
  start_small : (u v : ℕ) → v < vertex_total g → IsAncestor g u v → u < vertex_total g
  start_small u v lt ([], e) = omega (arith, lt, e)
  start_small u v lt (w ∷ ws, e) = (edge_ends g u w h.kept e.0).0

  owner_of : (u : ℕ) (lt : u < vertex_total g) → IsOwner g u (number_of_name u lt).thread
  owner_of u lt =
      let n = number_of_name u lt in
      let first = first_same n.thread in
      let vertices : (thread_at g n.thread).vertices ≡ length (part_nth xs n.thread).events = ap (λ (x : Thread). x.vertices) (thread_same n.thread n.within) in
      record { within = omega (arith, n.within, ap (λ (ts : List Thread). length ts) h.threads, length-map xs thread_of); low = omega (arith, n.is, first); high = omega (arith, n.is, n.below, first, vertices) }

  -- a thread's first and last vertices, and its priority
  module _ (t : ℕ) (t_lt : t < thread_total g) where
    s_lt : t < length xs
    s_lt = thread_is t t_lt

    vertices_same : (thread_at g t).vertices ≡ length (part_nth xs t).events
    vertices_same = ap (λ (z : Thread). z.vertices) (thread_same t s_lt)

    some : 0 < length (part_nth xs t).events
    some = omega (arith, vertices_same, h.kept.filled t t_lt)

    last_name : name_of g (last_vertex g t) ≡ end_of (part_nth xs t)
    last_name =
        let first = first_same t in
        let last_is : last_vertex g t ≡ first_in xs t + (length (part_nth xs t).events - 1) = omega (arith, first, vertices_same, some) in
        name_is (last_vertex g t) ∙ name_at xs t (length (part_nth xs t).events - 1) (last_vertex g t) s_lt (omega (arith, some)) last_is

    first_name : name_of g (first_vertex g t) ≡ start_of (part_nth xs t)
    first_name =
        let first = first_same t in
        let first_is : first_vertex g t ≡ first_in xs t + 0 = omega (arith, first) in
        name_is (first_vertex g t) ∙ name_at xs t 0 (first_vertex g t) s_lt some first_is

    first_lt : first_vertex g t < vertex_total g
    first_lt = omega (arith, thread_within g t h.kept t_lt, h.kept.filled t t_lt)

    priority_same : (part_nth xs t).prio ≡ (thread_at g t).priority
    priority_same = sym (ap (λ (z : Thread). z.priority) (thread_same t s_lt))

  -- the part of a vertex, and its priority
  part_of_vertex : (u : ℕ) (lt : u < vertex_total g) → part_at xs (name_of g u).path ≡ Some (part_nth xs (number_of_name u lt).thread)
  part_of_vertex u lt = let n = number_of_name u lt in ap (part_at xs) (sym n.path_is) ∙ part_here xs n.thread apart n.within

  vertex_same : (u : ℕ) (lt : u < vertex_total g) → (part_nth xs (number_of_name u lt).thread).prio ≡ vertex_priority g u
  vertex_same u lt =
      let n = number_of_name u lt in
      sym (owner_priority g u n.thread (owner_of u lt) ∙ ap (λ (z : Thread). z.priority) (thread_same n.thread n.within))

  carried_well_formed : (pairs : List (ℕ × ℕ)) → IsWellFormedGraph pairs xs → IsWellFormed g pairs
  carried_well_formed pairs ok t t_lt u up not =
      let s = thread_is t t_lt in
      let x : Part = part_nth xs t in
      let u_lt = start_small u (last_vertex g t) (last_below g t h.kept t_lt) up in
      let y : Part = part_nth xs (number_of_name u u_lt).thread in
      let reach : Reaches (IsEdge xs) (name_of g u) (end_of x) = subst (Reaches (IsEdge xs) (name_of g u)) (last_name t t_lt) (map (name_of g) up.0, named_walk u up.0 (last_vertex g t) up.1) in
      let away : Reaches (IsEdge xs) (name_of g u) (start_of x) → ⊥ = λ r. not (numbered_walk u r.0 (first_vertex g t) u_lt (first_lt t t_lt) (subst (Leads (IsEdge xs) (name_of g u) r.0) (sym (first_name t t_lt)) r.1)) in
      let least : AtMost pairs x.prio y.prio = ok x y (name_of g u) (part_here xs t apart s) (part_of_vertex u u_lt) reach away in
      subst (AtMost pairs (thread_at g t).priority) (vertex_same u u_lt) (subst (λ k. AtMost pairs k y.prio) (priority_same t t_lt) least)

  -- the start of a walk to a vertex is a vertex
  walk_from : (u v : Vertex) → IsVertex xs v → Reaches (IsEdge xs) u v → IsVertex xs u
  walk_from u v is ([], e) = subst (IsVertex xs) (sym e) is
  walk_from u v is (w ∷ ws, e) = source xs u w e.0

  back_well_formed : (pairs : List (ℕ × ℕ)) → IsWellFormed g pairs → IsWellFormedGraph pairs xs
  back_well_formed pairs ok x y u x_is y_is up not =
      let found = part_found xs x.path x x_is in
      let t : ℕ = found.0 in
      let t_lt : t < thread_total g = omega (arith, found.1, ap (λ (ts : List Thread). length ts) h.threads, length-map xs thread_of) in
      let x_same : part_nth xs t ≡ x = found.2 in
      let last : name_of g (last_vertex g t) ≡ end_of x = last_name t t_lt ∙ ap end_of x_same in
      let first : name_of g (first_vertex g t) ≡ start_of x = first_name t t_lt ∙ ap start_of x_same in
      let some_events : 0 < length x.events = subst (λ (z : Part). 0 < length z.events) x_same (some t t_lt) in
      let is = walk_from u (end_of x) (x, x_is, omega (arith, some_events)) up in
      let at = vertex_number xs u is in
      let n : ℕ = at.0 in
      let n_lt : n < vertex_total g = omega (arith, number_small xs u at.0 at.1, total) in
      let named : u ≡ name_of g n = sym (name_is n ∙ number_named xs u at.0 at.1) in
      let above : IsAncestor g n (last_vertex g t) =
      numbered_walk n up.0 (last_vertex g t) n_lt (last_below g t h.kept t_lt) (subst (λ (v : Vertex). Leads (IsEdge xs) v up.0 (name_of g (last_vertex g t))) named (subst (Leads (IsEdge xs) u up.0) (sym last) up.1)) in
      let apart_from : IsAncestor g n (first_vertex g t) → ⊥ = λ r. not (map (name_of g) r.0, subst (λ (v : Vertex). Leads (IsEdge xs) v (map (name_of g) r.0) (start_of x)) (sym named) (subst (Leads (IsEdge xs) (name_of g n) (map (name_of g) r.0)) first (named_walk n r.0 (first_vertex g t) r.1))) in
      let least = ok t t_lt n above apart_from in
      let y_same : part_nth xs (number_of_name n n_lt).thread ≡ y = one_part (part_of_vertex n n_lt) (ap (part_at xs) (ap (λ (v : Vertex). v.path) (sym named)) ∙ y_is) in
      let theirs : vertex_priority g n ≡ y.prio = sym (vertex_same n n_lt) ∙ ap (λ (z : Part). z.prio) y_same in
      let mine : (thread_at g t).priority ≡ x.prio = sym (priority_same t t_lt) ∙ ap (λ (z : Part). z.prio) x_same in
      subst (AtMost pairs x.prio) theirs (subst (λ k. AtMost pairs k (vertex_priority g n)) mine least)

  -- the records are well formed exactly where the graph is
  pub same_well_formed : (pairs : List (ℕ × ℕ)) → IsWellFormedGraph pairs xs ↔ IsWellFormed g pairs
  same_well_formed pairs = (carried_well_formed pairs, back_well_formed pairs)
