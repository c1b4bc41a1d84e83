-- The bound on the response of a thread, by counting tokens.
use Rattle.std.proofs.Common.{◌≡◌, ℕ, zero, suc, ◌+◌, ◌-◌, ◌*◌, ◌<◌, ◌≤◌, Bool, true, cond, List, [], ◌∷◌, length, take, drop, refl, sym, ap, ◌∙◌, subst, inl, inr, arith, ◌⊎◌}
use Rattle.std.specs.Prelude.{nat_eq}
use Rattle.std.specs.List.{concat, Contains, All, IsDistinct, filter, count_by}
use Rattle.std.specs.Set.{is_member}
use Rattle.std.proofs.lemmas.Map.Made.{is_member-Decides, is_member-filter, length-le_from_is_member}
use Rattle.std.proofs.lemmas.Cmp.{nat_eq_equiv}
use Rattle.std.proofs.lemmas.Bool.{cases_lt, cases_eq, both_ways, and_parts, eqb-true}
use Rattle.std.proofs.lemmas.List.Elements.{Contains-append_left, Contains-append_right, Contains-append_cases, All-cons, All-nil}
use Rattle.std.proofs.lemmas.List.Sums.{sum_by-append, length-filter}
use Rattle.std.proofs.Math.Seq.{drop-cons}
use Rattle.std.proofs.lemmas.List.{take-append-drop}
use Rattle.cost_graph.specs.Walks.{Leads, Reaches}
use Rattle.cost_graph.specs.Graph.{CostGraph, Edge, vertex_total, parents_at, IsAncestor, IsProperAncestor, vertex_priority, first_vertex, last_vertex, thread_at, thread_total, IsGraph, IsThreadWellFormed, IsVertexBelow}
use Rattle.cost_graph.specs.Marks.{IsReady}
use Rattle.prompt_checker.specs.Schedule.{step_at, vertices_before, IsPrompt}
use Rattle.priority_order.specs.Order.{AtMost, IsBelow, IsLawful}
use Rattle.priority_order.proofs.Paths as order
use Rattle.span_bound.specs.Work.{Competes, IsWork, IsSpan}
use Rattle.response_report.specs.Response.{ParentsBefore, IsResponse, BoundsResponse}
use Rattle.cost_graph.proofs.Walks.{last_edge, last_edge_of}
use Rattle.cost_graph.proofs.Ends.{first_to_last, first_priority}
use Rattle.cost_graph.proofs.ReadyNext.{edge_in}
use Rattle.cost_graph.proofs.Members.{decides_eq, member_or_not, no_member, distinct_left, distinct_right, distinct_apart, counts_one, misses_one, distinct_filter, parents_seen}
use Rattle.prompt_checker.proofs.Steps.{concat_append, before_more, before_kept}
use Rattle.std.proofs.Math.Nat.{le_refl}

-- what the bound asks of a thread and a schedule; `ends`, `starts` and `own` hold of every graph
pub record IsBounded (g : CostGraph) (pairs : List (ℕ × ℕ)) (cores : ℕ) (steps : List (List ℕ)) (t : ℕ) : Type 0 where
  pub lawful : IsLawful pairs
  pub ends : (u v : ℕ) → Edge g u v → (u < vertex_total g) × (v < vertex_total g)
  pub starts : IsAncestor g (first_vertex g t) (last_vertex g t)
  pub own : vertex_priority g (first_vertex g t) ≡ (thread_at g t).priority
  pub well_formed : IsThreadWellFormed g pairs t
  pub prompt : IsPrompt g (IsVertexBelow g pairs) cores steps

pub are_bounded : (g : CostGraph) (pairs : List (ℕ × ℕ)) (cores : ℕ) (steps : List (List ℕ)) (t : ℕ) → IsGraph g → IsLawful pairs → t < thread_total g → IsThreadWellFormed g pairs t → IsPrompt g (IsVertexBelow g pairs) cores steps → IsBounded g pairs cores steps t
are_bounded g pairs cores steps t ok lawful lt well prompt = record {
  lawful = lawful;
  ends = λ u v e. (ok.ends u v e, edge_in g u v e);
  starts = first_to_last g t ok lt;
  own = first_priority g t ok lt;
  well_formed = well;
  prompt = prompt;
}

-- the arithmetic of one step: all its tokens go to work, or one at most does not reach the span's share
step_full : (c d m k a b : ℕ) → c ≤ a → c * m ≤ b + d * k → c * suc m ≤ (a + b) + d * k
step_full c d m k a b h i = let e : c * suc m ≡ c + c * m = omega arith in omega (arith, e)

step_short : (c d m k a b : ℕ) → c ≤ d + 1 → 1 ≤ a → c * m ≤ b + d * k → c * suc m ≤ (a + b) + d * suc k
step_short c d m k a b w h i = let e : c * suc m ≡ c + c * m = omega arith in let f : d * suc k ≡ d + d * k = omega arith in omega (arith, e, f)

module _ (g : CostGraph) (pairs : List (ℕ × ℕ)) (cores : ℕ) (steps : List (List ℕ)) (t : ℕ) (known : IsBounded g pairs cores steps t) where
  abbrev s : ℕ
  s = first_vertex g t

  abbrev end : ℕ
  end = last_vertex g t

  -- a parent of what stands in the first steps stands there too
  parent_back : (i u v : ℕ) → i ≤ length steps → Edge g u v → Contains (vertices_before steps i) v → Contains (vertices_before steps i) u
  parent_back zero u v le e c = absurd (no_member v c)
  parent_back (suc i) u v le e c =
      let lt : i < length steps = omega arith in
      let less : i ≤ length steps = omega arith in
      let more = before_more steps i lt in
      let back : Contains (vertices_before steps i) u =
      elim (Contains-append_cases (vertices_before steps i) (step_at steps i) v (subst (λ l. Contains l v) more c)) [
        | inl early ↦ parent_back i u v less e early
        | inr here ↦ known.prompt.valid.after i v lt here u e
      ] in
      subst (λ l. Contains l u) (sym more) (Contains-append_left (vertices_before steps i) (step_at steps i) u back)

  ancestor_back : (i u v : ℕ) (ws : List ℕ) → i ≤ length steps → Leads (Edge g) u ws v → Contains (vertices_before steps i) v → Contains (vertices_before steps i) u
  ancestor_back i u v [] le a c = subst (Contains (vertices_before steps i)) (sym a) c
  ancestor_back i u v (w ∷ ws) le a c = parent_back i u w le a.0 (ancestor_back i w v ws le a.1 c)

  -- a proper ancestor of what stands in a step stands before it
  before_step : (i u v : ℕ) → i < length steps → IsProperAncestor g u v → Contains (step_at steps i) v → Contains (vertices_before steps i) u
  before_step i u v lt a c =
      let last = last_edge_of (Edge g) u v a in
      let le : i ≤ length steps = omega arith in
      ancestor_back i u last.0 last.1.0 le last.1.1 (known.prompt.valid.after i v lt c last.0 last.2)

  -- in order of steps: what stands before a step stands not in it
  once_before : (i v : ℕ) → i < length steps → Contains (vertices_before steps i) v → Contains (step_at steps i) v → ⊥
  once_before i v lt a b =
      let whole = ap concat (take-append-drop (suc i) steps) in
      let parts = concat_append (take (suc i) steps) (drop (suc i) steps) in
      let all = subst (IsDistinct nat_eq) (sym whole ∙ parts) known.prompt.valid.once in
      let first = subst (IsDistinct nat_eq) (before_more steps i lt) (distinct_left _ _ all) in
      distinct_apart _ _ v first a b

  below_up : (p q : ℕ) → IsBelow pairs p (thread_at g t).priority → AtMost pairs (thread_at g t).priority q → IsBelow pairs p q
  below_up p q b m =
      record { at_most = order.transitive pairs p (thread_at g t).priority q b.at_most m; differ = λ e. known.lawful.antisymmetric p (thread_at g t).priority b (subst (AtMost pairs (thread_at g t).priority) (sym e) m) }

  in_all : (i v : ℕ) → i < length steps → Contains (step_at steps i) v → v < vertex_total g
  in_all i v lt c =
      let whole = ap concat (take-append-drop (suc i) steps) in
      let parts = concat_append (take (suc i) steps) (drop (suc i) steps) in
      let upto = subst (λ l. Contains l v) (sym (before_more steps i lt)) (Contains-append_right (vertices_before steps i) (step_at steps i) v c) in
      let all = subst (λ l. Contains l v) (sym parts ∙ whole) (Contains-append_left (concat (take (suc i) steps)) (concat (drop (suc i) steps)) v upto) in
      (known.prompt.valid.all v).1 all

  -- the same for a vertex that can come next
  sources : (i v : ℕ) → ParentsBefore g steps i v ⊎ ((u : ℕ) × Edge g u v × (Contains (vertices_before steps i) u → ⊥))
  sources i v = parents_seen (vertices_before steps i) (parents_at g v)

  module _ (time : ℕ) (resp : IsResponse g steps t time) (work : ℕ) (w : IsWork g pairs t work) (span : ℕ) (sp : IsSpan g t span) where
    within : (i : ℕ) → i ≤ resp.to → i < length steps
    within i le = omega (arith, resp.bounds)

    -- each proper ancestor of the first vertex has run before the span of the response begins
    origin_done : (i x : ℕ) → resp.from ≤ i → i ≤ resp.to → IsProperAncestor g x (first_vertex g t) → Contains (vertices_before steps i) x
    origin_done i x low high a =
        let last = last_edge_of (Edge g) x (first_vertex g t) a in
        let lt = within i high in
        let le : resp.from ≤ length steps = omega arith in
        let d : ℕ = i - resp.from in
        let e : resp.from + d ≡ i = omega arith in
        let le' : resp.from + d ≤ length steps = omega arith in
        let early = ancestor_back resp.from x last.0 last.1.0 le last.1.1 (resp.released.parents last.0 last.2) in
        subst (λ j. Contains (vertices_before steps j) x) e (before_kept steps d resp.from x le' early)

    end_waits : (i : ℕ) → i ≤ resp.to → Contains (vertices_before steps i) (last_vertex g t) → ⊥
    end_waits i high c =
        let lt = within i high in
        let d : ℕ = resp.to - i in
        let e : i + d ≡ resp.to = omega arith in
        let le' : i + d ≤ length steps = omega (arith, resp.bounds) in
        let late = subst (λ j. Contains (vertices_before steps j) (last_vertex g t)) e (before_kept steps d i (last_vertex g t) le' c) in
        once_before resp.to (last_vertex g t) resp.bounds late resp.runs

    -- what has still to run before the last vertex has a priority that the thread's is at most
    at_most : (i u : ℕ) (ws : List ℕ) → resp.from ≤ i → i ≤ resp.to → Leads (Edge g) u ws (last_vertex g t) → (Contains (vertices_before steps i) u → ⊥) → AtMost pairs (thread_at g t).priority (vertex_priority g u)
    at_most i u ws low high walk left =
        elim (cases_eq u (first_vertex g t)) [
          | inl same ↦ record { path = []; leads = sym known.own ∙ ap (vertex_priority g) (sym same) }
          | inr other ↦ known.well_formed u (ws, walk) (λ a. left (origin_done i u low high (a, other)))
        ]

    competes_at : (i u : ℕ) → resp.from ≤ i → i ≤ resp.to → Contains (step_at steps i) u → (IsBelow pairs (vertex_priority g u) (thread_at g t).priority → ⊥) → Competes g pairs t u
    competes_at i u low high c above =
        let lt = within i high in (
          in_all i u lt c,
          above,
          λ a. once_before i u lt (origin_done i u low high a) c,
          λ a. end_waits i high (before_step i (last_vertex g t) u lt a c),
        )

    abbrev counted : ℕ → Bool
    counted v = is_member nat_eq w.members v

    counts : (v : ℕ) → Competes g pairs t v → counted v ≡ true
    counts v h = (is_member-Decides decides_eq w.members v).1 ((w.are v).0 h)

    -- each walk to the last vertex from what is left has at most k vertices
    abbrev Bounded : ℕ → ℕ → Type 0
    Bounded i k = (u : ℕ) (ws : List ℕ) → Leads (Edge g) u ws (last_vertex g t) → (Contains (vertices_before steps i) u → ⊥) → length ws + 1 ≤ k

    end_is : last_vertex g t < vertex_total g
    end_is = in_all resp.to (last_vertex g t) resp.bounds resp.runs

    is_vertex : (u : ℕ) (ws : List ℕ) → Leads (Edge g) u ws (last_vertex g t) → u < vertex_total g
    is_vertex u [] walk = subst (λ x. x < vertex_total g) (sym walk) end_is
    is_vertex u (x ∷ ws) walk = (known.ends u x walk.0).0

    -- a walk back from the last vertex comes to one that is ready
    find_ready : (fuel i k u : ℕ) (ws : List ℕ) → Bounded i k → Leads (Edge g) u ws (last_vertex g t) → (Contains (vertices_before steps i) u → ⊥) → k ≤ fuel + length ws
        → (x : ℕ) × Reaches (Edge g) x (last_vertex g t) × IsReady g (vertices_before steps i) x
    find_ready zero i k u ws bound walk left enough = absurd (omega (arith, bound u ws walk left, enough))
    find_ready (suc fuel) i k u ws bound walk left enough =
        elim (sources i u) [
          | inl ready ↦ (u, (ws, walk), record { vertex = is_vertex u ws walk; waits = left; parents = ready })
          | inr p ↦
              let enough' : k ≤ fuel + length (u ∷ ws) = omega (arith, enough) in
              find_ready fuel i k p.0 (u ∷ ws) bound (p.1, walk) p.2 enough'
        ]

    -- where a token goes to the span, each ready vertex on a way to the last one runs
    all_run : (i u : ℕ) → resp.from ≤ i → i ≤ resp.to → count_by counted (step_at steps i) < cores → Reaches (Edge g) u (last_vertex g t) → IsReady g (vertices_before steps i) u → Contains (step_at steps i) u
    all_run i u low high few walk ready =
        elim (member_or_not (step_at steps i) u) [
          | inl runs ↦ runs
          | inr out ↦
              let lt = within i high in
              let full = known.prompt.busy i u lt ready out in
              let fewer : count_by counted (step_at steps i) < length (step_at steps i) = omega (arith, full, few) in
              let v = misses_one counted (step_at steps i) fewer in
              let up = at_most i u walk.0 low high walk.1 ready.waits in
              let above = λ (b : IsBelow pairs (vertex_priority g v.0) (thread_at g t).priority). known.prompt.fair i v.0 u lt v.1 ready out (below_up (vertex_priority g v.0) (vertex_priority g u) b up) in
              absurd (both_ways _ v.2 (counts v.0 (competes_at i v.0 low high v.1 above)))
        ]

    -- so the longest walk that is left gets shorter
    bound_falls : (i k : ℕ) → resp.from ≤ i → i ≤ resp.to → count_by counted (step_at steps i) < cores → Bounded i (suc k) → Bounded (suc i) k
    bound_falls i k low high few bound u ws walk left =
        let lt = within i high in
        let more = before_more steps i lt in
        let waits = λ (c : Contains (vertices_before steps i) u). left (subst (λ l. Contains l u) (sym more) (Contains-append_left (vertices_before steps i) (step_at steps i) u c)) in
        let idle = λ (c : Contains (step_at steps i) u). left (subst (λ l. Contains l u) (sym more) (Contains-append_right (vertices_before steps i) (step_at steps i) u c)) in
        elim (sources i u) [
          | inl ready ↦ absurd (idle (all_run i u low high few (ws, walk) (record { vertex = is_vertex u ws walk; waits = waits; parents = ready })))
          | inr p ↦
              let longer : length (u ∷ ws) + 1 ≤ suc k = bound p.0 (u ∷ ws) (p.1, walk) p.2 in
              omega (arith, longer)
        ]

    works : (i k : ℕ) → resp.from ≤ i → i ≤ resp.to → count_by counted (step_at steps i) < cores → Bounded i k → 1 ≤ count_by counted (step_at steps i)
    works i k low high few bound =
        let enough : k ≤ k + length {A = ℕ} [] = omega arith in
        let x = find_ready k i k (last_vertex g t) [] bound refl (end_waits i high) enough in
        let runs = all_run i x.0 low high few x.1 x.2 in
        let above = λ (b : IsBelow pairs (vertex_priority g x.0) (thread_at g t).priority).
        known.lawful.antisymmetric (vertex_priority g x.0) (thread_at g t).priority b (at_most i x.0 x.1.0 low high x.1.1 x.2.waits) in
        counts_one counted (step_at steps i) x.0 runs (counts x.0 (competes_at i x.0 low high runs above))

    bound_kept : (i k : ℕ) → resp.from ≤ i → i ≤ resp.to → Bounded i k → Bounded (suc i) k
    bound_kept i k low high bound u ws walk left =
        let lt = within i high in
        bound u ws walk (λ c. left (subst (λ l. Contains l u) (sym (before_more steps i lt)) (Contains-append_left (vertices_before steps i) (step_at steps i) u c)))

    tokens : (m i k : ℕ) → i + m ≡ resp.to + 1 → resp.from ≤ i → Bounded i k → cores * m ≤ count_by counted (concat (take m (drop i steps))) + (cores - 1) * k
    tokens zero i k e low bound = omega arith
    tokens (suc m) i k e low bound =
        let high : i ≤ resp.to = omega arith in
        let lt = within i high in
        let e' : suc i + m ≡ resp.to + 1 = omega arith in
        let low' : resp.from ≤ suc i = omega arith in
        let here : ℕ = count_by counted (step_at steps i) in
        let rest : ℕ = count_by counted (concat (take m (drop (suc i) steps))) in
        let split : count_by counted (concat (take (suc m) (drop i steps))) ≡ here + rest =
        ap (λ l. count_by counted (concat (take (suc m) l))) (drop-cons steps i [] lt) ∙ sum_by-append (λ y. cond (counted y) 1 0) (step_at steps i) (concat (take m (drop (suc i) steps))) in
        rw split (
        elim (cases_lt here cores) [
          | inr full ↦ step_full cores (cores - 1) m k here rest full (tokens m (suc i) k e' low' (bound_kept i k low high bound))
          | inl few ↦
              let some : length {A = ℕ} [] + 1 ≤ k = bound (last_vertex g t) [] refl (end_waits i high) in
              let k' : ℕ = k - 1 in
              let same : k ≡ suc k' = omega (arith, some) in
              let less = bound_falls i k' low high few (subst (Bounded i) same bound) in
              let width : cores ≤ (cores - 1) + 1 = omega arith in
              subst (λ n. cores * suc m ≤ (here + rest) + (cores - 1) * n) (sym same)
              (step_short cores (cores - 1) m k' here rest width (works i k low high few bound) (tokens m (suc i) k' e' low' less))
        ])

    -- the thread's first vertex is released no later than its last one runs
    pub in_order : resp.from ≤ resp.to
    in_order = resp.released.least resp.to (start known.starts)
      where
        start : IsAncestor g (first_vertex g t) (last_vertex g t) → ParentsBefore g steps resp.to (first_vertex g t)
        start ([], same) = subst (ParentsBefore g steps resp.to) (sym same) (known.prompt.valid.after resp.to (last_vertex g t) resp.bounds resp.runs)
        start (x ∷ ws, walk) = λ u e.
            let last = last_edge (Edge g) (first_vertex g t) x (last_vertex g t) ws walk in
            let le : resp.to ≤ length steps = omega (arith, resp.bounds) in
            let p = known.prompt.valid.after resp.to (last_vertex g t) resp.bounds resp.runs last.0 last.2 in
            parent_back resp.to u (first_vertex g t) le e (ancestor_back resp.to (first_vertex g t) last.0 last.1.0 le last.1.1 p)

    from_within : resp.from ≤ length steps
    from_within = omega (arith, in_order, resp.bounds)

    -- a walk from what has still to run has no proper ancestor of the first vertex
    clear : (x : ℕ) (xs : List ℕ) → Leads (Edge g) x xs (last_vertex g t) → (Contains (vertices_before steps resp.from) x → ⊥) → All (λ y. IsProperAncestor g y (first_vertex g t) → ⊥) (x ∷ xs)
    clear x [] walk left =
        All-cons (λ y. IsProperAncestor g y (first_vertex g t) → ⊥) x [] (λ a. left (origin_done resp.from x (le_refl resp.from) in_order a)) (All-nil (λ y. IsProperAncestor g y (first_vertex g t) → ⊥))
    clear x (y ∷ ys) walk left =
        All-cons (λ z. IsProperAncestor g z (first_vertex g t) → ⊥) x (y ∷ ys) (λ a. left (origin_done resp.from x (le_refl resp.from) in_order a))
        (clear y ys walk.1 (λ c. left (parent_back resp.from x y from_within walk.0 c)))

    at_first : Bounded resp.from span
    at_first u ws walk left = sp.greatest u ws (walk, clear u ws walk left)

    -- work gets at most one token for each competitor
    work_fits : (m : ℕ) → count_by counted (concat (take m (drop resp.from steps))) ≤ work
    work_fits m =
        let seg = concat (take m (drop resp.from steps)) in
        let whole = sym (concat_append (take resp.from steps) (drop resp.from steps)) ∙ ap concat (take-append-drop resp.from steps) in
        let back = sym (concat_append (take m (drop resp.from steps)) (drop m (drop resp.from steps))) ∙ ap concat (take-append-drop m (drop resp.from steps)) in
        let tail = distinct_right (concat (take resp.from steps)) _ (subst (IsDistinct nat_eq) (sym whole) known.prompt.valid.once) in
        let once = distinct_left seg _ (subst (IsDistinct nat_eq) (sym back) tail) in
        let le = length-le_from_is_member nat_eq_equiv (filter counted seg) w.members (distinct_filter counted seg once) (kept seg) in
        omega (arith, le, length-filter counted seg, w.is)
      where
        kept : (seg : List ℕ) (q : ℕ) → is_member nat_eq (filter counted seg) q ≡ true → is_member nat_eq w.members q ≡ true
        kept seg q h =
            let same = is_member-filter nat_eq_equiv counted q (λ x e. ap counted (eqb-true q x e)) seg in
            (and_parts (is_member nat_eq seg q) (counted q) (sym same ∙ h)).1

    bounded : cores * time ≤ work + (cores - 1) * span
    bounded =
        let m : ℕ = resp.to - resp.from + 1 in
        let e : resp.from + m ≡ resp.to + 1 = omega (arith, in_order) in
        let all = tokens m resp.from span e (le_refl resp.from) at_first in
        rw resp.is (omega (arith, all, work_fits m))

-- P times the response is at most the work and P - 1 times the span
pub response_bound : (g : CostGraph) (pairs : List (ℕ × ℕ)) (cores : ℕ) (steps : List (List ℕ)) (t : ℕ) → IsBounded g pairs cores steps t → BoundsResponse g pairs cores steps t
response_bound g pairs cores steps t known time work span resp w sp = bounded g pairs cores steps t known time resp work w span sp
