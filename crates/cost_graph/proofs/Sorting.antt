-- What a topological order keeps from place to place.
use Rattle.std.proofs.Common.{◌≡◌, ℕ, zero, suc, ◌+◌, ◌-◌, ◌<◌, ◌≤◌, Bool, true, false, List, [], ◌∷◌, ◌++◌, length, take, drop, get_or, set, replicate, ◌==◌, add-one, refl, sym, ap, ◌∙◌, subst, inl, inr, arith, ◌⊎◌, ◌↔◌}
use Rattle.std.specs.Prelude.{nat_eq}
use Rattle.std.specs.List.{Contains, IsDistinct, filter, range_with_len}
use Rattle.std.proofs.lemmas.List.{take-append-drop, append-nil, length-append, take-append-le, drop-append-le, get_or_past, length-replicate}
use Rattle.std.proofs.lemmas.List.Elements.{Contains-append_left, Contains-append_right, Contains-append_cases, Contains-get_or, All-contains}
use Rattle.std.proofs.lemmas.Bool.{cases_lt, cases_eq, both_ways}
use Rattle.std.proofs.Math.Seq.{take-suc, drop-cons, get_or-append_right, take-length, take-add}
use Rattle.std.proofs.Math.ListN.{get_or-append}
use Rattle.std.specs.Cmp.{nat_eq_equiv}
use Rattle.std.specs.Set.{is_member}
use Rattle.std.proofs.lemmas.Map.Made.{is_member-Decides, length-le_from_is_member}
use Rattle.std.proofs.lemmas.Map.Steps.{length-le_from_distinct_below}
use Rattle.std.proofs.lemmas.List.FromFn.{length-range_with_len}
use Rattle.cost_graph.specs.Graph.{CostGraph, vertex_total, parents_at, children_at, is_edge, Edge, IsGraph}
use Rattle.cost_graph.specs.Marks.{IsSeen, IsDone, IsReady}
use Rattle.cost_graph.specs.Inside.Marks.{is_free, freed_by, unmarked}
use Rattle.cost_graph.specs.Order.{IsTopological, IsBehindCycle, IsBeforeCycles, IsSortedOrStuck}
use Rattle.cost_graph.proofs.Members.{decides_eq, member_or_not, no_member, member_cons, member_head, member_tail, distinct_right, distinct_apart, distinct_filter, distinct_join, parents_seen, in_drop, no_member_short, short_from_none}
use Rattle.cost_graph.proofs.Visits.{numbers_below}
use Rattle.cost_graph.proofs.ReadyNext.{IsFreed, done_next, ready_then, then_ready, freed_is}
use Rattle.cost_graph.proofs.Cycles.{distinct_with, stuck_cycle}
use Rattle.cost_graph.proofs.Ordered.{in_order_free, ordered_acyclic}
use Rattle.cost_graph.proofs.Falls.{falls}
use Rattle.cost_graph.proofs.Ranges.{in_range, in_filter, out_filter, from_filter, distinct_range}

pub record IsSorting (g : CostGraph) (marks : List Bool) (seen order : List ℕ) (place : ℕ) : Type 0 where
  pub watched : IsSeen g marks seen
  pub done : IsDone g marks (take place order)
  pub fits : place ≤ length order
  pub once : IsDistinct nat_eq order
  pub queue : (c : ℕ) → Contains (drop place order) c ↔ IsReady g (take place order) c
  pub after : (i u : ℕ) → i < length order → Edge g u (get_or order i 0) → Contains (take i order) u

module _ (g : CostGraph) (marks : List Bool) (seen order : List ℕ) (place : ℕ) (now : IsSorting g marks seen order place) (lt : place < length order) where
  v : ℕ
  v = get_or order place 0

  queue_is : drop place order ≡ get_or order place 0 ∷ drop (suc place) order
  queue_is = drop-cons order place 0 lt

  pub runs : (w : ℕ) → Contains (get_or order place 0 ∷ []) w → IsReady g (take place order) w
  runs w c =
      (now.queue w).0 (subst (λ l. Contains l w) (sym queue_is) (elim (member_cons (get_or order place 0) [] w c) [
        | inl e ↦ subst (Contains (get_or order place 0 ∷ drop (suc place) order)) e (member_head (get_or order place 0) (drop (suc place) order))
        | inr z ↦ absurd (no_member w z)
      ]))

  pub next_in : get_or order place 0 < vertex_total g
  next_in = (runs (get_or order place 0) (member_head (get_or order place 0) [])).vertex

  abbrev freed : List ℕ
  freed = filter (is_free g (set marks (get_or order place 0) true)) (children_at g (get_or order place 0))

  freed_same : freed_by g marks (get_or order place 0 ∷ []) ≡ freed
  freed_same = append-nil freed

  taken : take (place + 1) order ≡ take place order ++ get_or order place 0 ∷ []
  taken = rw add-one (take-suc order place 0 lt)

  taken_on : take (place + 1) (order ++ freed) ≡ take place order ++ get_or order place 0 ∷ []
  taken_on = let le : place + 1 ≤ length order = omega (arith, lt) in take-append-le (place + 1) order freed le ∙ taken

  is_freed : (c : ℕ) → Contains freed c → IsFreed g marks (get_or order place 0 ∷ []) c
  is_freed c k = freed_is g (get_or order place 0 ∷ []) marks c (λ x d. subst (λ n. x < n) (sym now.done.size) (runs x d).vertex) (subst (λ l. Contains l c) (sym freed_same) k)

  now_ready : (c : ℕ) → Contains freed c → IsReady g (take place order ++ get_or order place 0 ∷ []) c
  now_ready c k = then_ready g marks (take place order) (get_or order place 0 ∷ []) now.done runs c (inr (subst (λ l. Contains l c) (sym freed_same) k))

  order_is : take place order ++ (get_or order place 0 ∷ drop (suc place) order) ≡ order
  order_is = ap (λ l. take place order ++ l) (sym queue_is) ∙ take-append-drop place order

  -- what is freed stands not yet in the order
  new : (c : ℕ) → Contains order c → Contains freed c → ⊥
  new c k f =
      let r = now_ready c f in
      let d = is_freed c f in
      elim (Contains-append_cases (take place order) (drop place order) c (subst (λ l. Contains l c) (sym (take-append-drop place order)) k)) [
        | inl early ↦ r.waits (Contains-append_left (take place order) (get_or order place 0 ∷ []) c early)
        | inr late ↦
            let waiting = (now.queue c).0 late in
            (runs d.by d.runs).waits (waiting.parents d.by d.edge)
      ]

  pub sorting_on : (seen' : List ℕ) → IsSeen g (set marks (get_or order place 0) true) seen' → IsSorting g (set marks (get_or order place 0) true) seen' (order ++ freed) (place + 1)
  sorting_on seen' watched = record {
    watched = watched;
    done = subst (IsDone g (set marks (get_or order place 0) true)) (sym taken_on) (done_next g marks (take place order) (get_or order place 0 ∷ []) now.done runs);
    fits = omega (arith, lt, length-append order freed);
    once = distinct_join order freed now.once (distinct_filter (is_free g (set marks (get_or order place 0) true)) (children_at g (get_or order place 0)) (distinct_filter (is_edge g (get_or order place 0)) (range_with_len 0 (vertex_total g)) (distinct_range 0 (vertex_total g)))) new;
    queue = λ c. (to c, from c);
    after = after;
  }
    where
      rest : drop (place + 1) (order ++ freed) ≡ drop (suc place) order ++ freed
      rest = let le : suc place ≤ length order = omega (arith, lt) in rw add-one (drop-append-le (suc place) order freed le)

      to : (c : ℕ) → Contains (drop (place + 1) (order ++ freed)) c → IsReady g (take (place + 1) (order ++ freed)) c
      to c k =
          subst (λ l. IsReady g l c) (sym taken_on) (elim (Contains-append_cases (drop (suc place) order) freed c (subst (λ l. Contains l c) rest k)) [
            | inr f ↦ now_ready c f
            | inl q ↦
                let waiting = (now.queue c).0 (subst (λ l. Contains l c) (sym queue_is) (member_tail (get_or order place 0) (drop (suc place) order) c q)) in
                let all = subst (IsDistinct nat_eq) (sym order_is) now.once in
                let tail = distinct_right (take place order) (get_or order place 0 ∷ drop (suc place) order) all in
                then_ready g marks (take place order) (get_or order place 0 ∷ []) now.done runs c (inl (waiting, λ z. distinct_apart (get_or order place 0 ∷ []) (drop (suc place) order) c tail z q))
          ])

      from : (c : ℕ) → IsReady g (take (place + 1) (order ++ freed)) c → Contains (drop (place + 1) (order ++ freed)) c
      from c r =
          subst (λ l. Contains l c) (sym rest) (elim (ready_then g marks (take place order) (get_or order place 0 ∷ []) now.done runs c (subst (λ l. IsReady g l c) taken_on r)) [
            | inr f ↦ Contains-append_right (drop (suc place) order) freed c (subst (λ l. Contains l c) freed_same f)
            | inl s ↦ elim (member_cons (get_or order place 0) (drop (suc place) order) c (subst (λ l. Contains l c) queue_is ((now.queue c).1 s.0))) [
              | inl e ↦ absurd (s.1 (subst (Contains (get_or order place 0 ∷ [])) e (member_head (get_or order place 0) [])))
              | inr later ↦ Contains-append_left (drop (suc place) order) freed c later
            ]
          ])

      after : (i u : ℕ) → i < length (order ++ freed) → Edge g u (get_or (order ++ freed) i 0) → Contains (take i (order ++ freed)) u
      after i u i_lt e =
          elim (cases_lt i (length order)) [
            | inl early ↦
                let le : i ≤ length order = omega (arith, early) in
                subst (λ l. Contains l u) (sym (take-append-le i order freed le)) (now.after i u early (subst (Edge g u) (get_or-append order freed 0 i early) e))
            | inr late ↦
                let k : ℕ = i - length order in
                let k_lt : k < length freed = omega (arith, late, i_lt, length-append order freed) in
                let here = Contains-get_or freed k 0 k_lt in
                let edge = subst (Edge g u) (get_or-append_right order freed i 0 late) e in
                let before = (now_ready (get_or freed k 0) here).parents u edge in
                let d : ℕ = i - (place + 1) in
                let sum : (place + 1) + d ≡ i = omega (arith, late, lt) in
                subst (λ j. Contains (take j (order ++ freed)) u) sum (subst (λ l. Contains l u) (sym (take-add (place + 1) d (order ++ freed)))
                (Contains-append_left (take (place + 1) (order ++ freed)) (take d (drop (place + 1) (order ++ freed))) u (subst (λ l. Contains l u) (sym taken_on) before)))
          ]

no_mark : (n v : ℕ) → get_or (replicate n false) v false ≡ false
no_mark zero v = refl
no_mark (suc n) zero = refl
no_mark (suc n) (suc v) = no_mark n v

-- each vertex below n stands in the list, or one does not
all_or_one : (order : List ℕ) (n : ℕ) → ((v : ℕ) → v < n → Contains order v) ⊎ ((v : ℕ) × (v < n) × (Contains order v → ⊥))
all_or_one order zero = inl (λ v lt. absurd (omega (arith, lt)))
all_or_one order (suc n) =
    elim (all_or_one order n) [
      | inr m ↦ inr (m.0, omega (arith, m.1), m.2)
      | inl all ↦ elim (member_or_not order n) [
        | inr out ↦ inr (n, omega arith, out)
        | inl has ↦ inl (λ v lt. elim (cases_eq v n) [ inl e ↦ subst (Contains order) (sym e) has | inr ne ↦ all v (omega (arith, lt, ne)) ])
      ]
    ]

module _ (g : CostGraph) (marks : List Bool) (seen order : List ℕ) (place : ℕ) (now : IsSorting g marks seen order place) (shape : IsGraph g) (end : length order ≤ place) where
  whole : take place order ≡ order
  whole = let e : length order ≡ place = omega (arith, now.fits, end) in subst (λ n. take n order ≡ order) e (take-length order)

  below : (v : ℕ) → Contains order v → v < vertex_total g
  below v c =
      elim (cases_lt v (length marks)) [
        | inl lt ↦ omega (arith, lt, now.done.size)
        | inr past ↦ absurd (both_ways (get_or marks v false) (get_or_past marks v false past) ((now.done.agree v).1 (subst (λ l. Contains l v) (sym whole) c)))
      ]

  -- a vertex that is missing has a parent that is missing
  back : (v : ℕ) → (v < vertex_total g) × (Contains order v → ⊥) → (p : ℕ) × Edge g p v × ((p < vertex_total g) × (Contains order p → ⊥))
  back v u =
      elim (parents_seen order (parents_at g v)) [
        | inr p ↦ (p.0, p.1, (shape.ends p.0 v p.1, p.2))
        | inl all ↦
            let ready : IsReady g (take place order) v = subst (λ l. IsReady g l v) (sym whole) (record { vertex = u.0; waits = u.1; parents = all }) in
            let c = in_drop order place v ((now.queue v).1 ready) in
            absurd (u.1 c)
      ]

  -- a cycle leads to a vertex that is missing
  behind : (v : ℕ) → v < vertex_total g → (Contains order v → ⊥) → IsBehindCycle g v
  behind v lt out = stuck_cycle (Edge g) (λ v. (v < vertex_total g) × (Contains order v → ⊥)) (vertex_total g) (λ v u. u.0) back v (lt, out)

  member : (xs : List ℕ) (q : ℕ) → (Contains xs q → is_member nat_eq xs q ≡ true) × (is_member nat_eq xs q ≡ true → Contains xs q)
  member xs q = let d = is_member-Decides decides_eq xs q in (λ c. d.1 c, λ e. d.0 e)

  low : length order ≤ vertex_total g
  low = length-le_from_distinct_below order (vertex_total g) now.once (λ q e. below q ((member order q).1 e))

  full : ((v : ℕ) → v < vertex_total g → Contains order v) → length order ≡ vertex_total g
  full all =
      let numbers = range_with_len 0 (vertex_total g) in
      let high = length-le_from_is_member nat_eq_equiv numbers order (distinct_range 0 (vertex_total g)) (λ q e. (member order q).0 (all q (All-contains (λ v. v < vertex_total g) numbers q (numbers_below (vertex_total g)) ((member numbers q).1 e)))) in
      omega (arith, low, high, length-range_with_len 0 (vertex_total g))

  short : (v : ℕ) → v < vertex_total g → (Contains order v → ⊥) → length order < vertex_total g
  short v lt out =
      let one = length-le_from_distinct_below (v ∷ order) (vertex_total g) (distinct_with v order now.once out) (λ q e. elim (member_cons v order q ((member (v ∷ order) q).1 e)) [ inl is ↦ subst (λ x. x < vertex_total g) is lt | inr later ↦ below q later ]) in
      omega (arith, one)

  -- the order has each vertex to which no cycle leads, and no other
  pub before_cycles : IsBeforeCycles g order
  before_cycles = record {
    all = λ v. (
      λ h. elim (member_or_not order v) [ inl c ↦ c | inr out ↦ absurd (h.1 (behind v h.0 out)) ],
      λ c. (below v c, in_order_free g order now.after now.once v c),
    );
    after = now.after;
    once = now.once;
  }

  pub sorted_or_stuck : IsSortedOrStuck g order
  sorted_or_stuck =
      elim (all_or_one order (vertex_total g)) [
        | inl all ↦
            let topo : IsTopological g order = record { all = λ v. (all v, λ c. below v c); after = now.after; once = now.once } in
            inl (topo, ordered_acyclic g order topo shape, full all)
        | inr m ↦ let c = behind m.0 m.1 m.2 in inr ((c.0, c.1, c.2, c.3), short m.0 m.1 m.2)
      ]

no_seen : (n v : ℕ) → get_or {A = ℕ} (replicate n 0) v 0 ≡ 0
no_seen zero v = refl
no_seen (suc n) zero = refl
no_seen (suc n) (suc v) = no_seen n v

pub sorting_from : (g : CostGraph) (n : ℕ) → n ≡ vertex_total g → IsSorting g (replicate n false) (replicate n 0) (filter (λ v. length (parents_at g v) == 0) (range_with_len 0 (vertex_total g))) 0
sorting_from g n e =
    record {
      watched = record {
        marks_fit = length-replicate n false ∙ e;
        seen_fit = length-replicate n 0 ∙ e;
        within = λ v lt. omega (arith, no_seen n v);
        marked = λ v k lt below. absurd (omega (arith, below, no_seen n v));
      };
      done = record {
        size = length-replicate n false ∙ e;
        agree = λ v. (λ m. absurd (both_ways (get_or (replicate n false) v false) (no_mark n v) m), λ c. absurd (no_member v c));
        closed = λ u v d c. absurd (no_member v c);
      };
      fits = omega arith;
      once = distinct_filter test (range_with_len 0 (vertex_total g)) (distinct_range 0 (vertex_total g));
      queue = λ c. (
        λ k. record {
          vertex = All-contains (λ v. v < vertex_total g) (range_with_len 0 (vertex_total g)) c (numbers_below (vertex_total g)) (out_filter test (range_with_len 0 (vertex_total g)) c k);
          waits = no_member c;
          parents = λ u d. absurd (no_member_short (parents_at g c) u (from_filter test (range_with_len 0 (vertex_total g)) c k) d);
        },
        λ r. in_filter test (range_with_len 0 (vertex_total g)) c (in_range 0 (vertex_total g) c (omega arith) (omega (arith, r.vertex))) (short_from_none (parents_at g c) (λ u d. no_member u (r.parents u d))),
      );
      after = λ i u lt d.
          let c = Contains-get_or sources i 0 lt in
          absurd (no_member_short (parents_at g (get_or sources i 0)) u (from_filter test (range_with_len 0 (vertex_total g)) (get_or sources i 0) c) d);
    }
  where
    test : ℕ → Bool
    test v = length (parents_at g v) == 0

    sources : List ℕ
    sources = filter test (range_with_len 0 (vertex_total g))

pub sorting_falls : (g : CostGraph) (marks : List Bool) (seen order : List ℕ) (place : ℕ) → IsSorting g marks seen order place → place < length order → unmarked (set marks (get_or order place 0) true) < unmarked marks
sorting_falls g marks seen order place now lt =
    falls (get_or order place 0 ∷ []) marks
    (λ w c. subst (λ n. w < n) (sym now.done.size) (runs g marks seen order place now lt w c).vertex)
    (λ w c h. (runs g marks seen order place now lt w c).waits ((now.done.agree w).0 h)) (omega arith)
