-- The lines of a graph of threads are those of their Spawn and Join edges.
use Rattle.std.proofs.Common.{◌≡◌, ◌≢◌, ℕ, ◌+◌, ◌-◌, ◌<◌, Bool, true, false, List, [], ◌∷◌, length, take, eq-eqb, refl, sym, ap, ◌∙◌, subst, inl, inr, arith, ◌⊎◌}
use Rattle.std.specs.Prelude.{Some, slice_get, nat_eq, not, codes, if◌then◌else◌}
use Rattle.std.specs.List.{Contains, flat_map}
use Rattle.std.specs.List.Sorted.{IsStrictlyIncreasing}
use Rattle.std.proofs.lemmas.Bool.{cases_eq, ne_eqb}
use Rattle.std.proofs.lemmas.List.Kept.{IsStrictlyIncreasing-filter}
use Rattle.std.proofs.lemmas.Option.{slice_get_within}
use Rattle.priml_syntax.specs.declared.event.Event.TheVariants.{Start, Spawn, Join}
use Rattle.priml_syntax.specs.Events.{spawns}
use Rattle.cost_graph.specs.declared.graph.Thread.{Thread}
use Rattle.cost_graph.specs.Graph.{CostGraph, Edge, Vertex, vertex_total, thread_at, parents_at, first_vertex, name_of}
use Rattle.cost_graph.specs.Records.{Part, part_at, IsVertex, Spawns, Joins, IsEdge, AreFinished, IsGraphOf}
use Rattle.cost_graph.specs.RecordLines.{IsLineOf, HasLinesOf}
use Rattle.cost_graph.specs.Inside.Tables.{part_nth, first_in, vertex_at, IsNumber, IsSpawnPlace}
use Rattle.cost_graph.specs.Text.{edge_text, edge_line, spawn_lines, joins_to, join_lines}
use Rattle.cost_graph.proofs.Members.{no_member, member_head, member_tail}
use Rattle.cost_graph.proofs.Ranges.{in_filter, from_filter, out_filter}
use Rattle.cost_graph.proofs.Appended.{one_line}
use Rattle.cost_graph.proofs.Parts.{AreApart, part_among, part_here, one_part, one_number, number_at, number_named, number_small, name_at}
use Rattle.cost_graph.proofs.Spawns.{one_place}
use Rattle.cost_graph.proofs.Arrows.{child_same, first_edge, has_events}
use Rattle.cost_graph.proofs.Carried.{vertex_number, total, name_is, number_of_name, thread_is, thread_same, first_same}

one_or_none : (ps : List ℕ) → IsStrictlyIncreasing ps → ((a b : ℕ) → Contains ps a → Contains ps b → a ≡ b) → (ps ≡ []) ⊎ ((a : ℕ) × (ps ≡ a ∷ []))
one_or_none [] rising same = inl refl
one_or_none (a ∷ []) rising same = inr (a, refl)
one_or_none (a ∷ b ∷ ps) rising same =
    let one : a ≡ b = same a b (member_head a (b ∷ ps)) (member_tail a (b ∷ ps) b (member_head b ps)) in
    let less : a < b = rising 0 (omega arith) in
    absurd (omega (arith, one, less))

vertex_same : (u w : Vertex) → u.path ≡ w.path → u.number ≡ w.number → u ≡ w
vertex_same u w e f = ap (λ (p : List ℕ). let v : Vertex = record { path = p; number = u.number } in v) e ∙ ap (λ k. let v : Vertex = record { path = w.path; number = k } in v) f

-- one Spawn leads to a vertex
same_spawn : (xs : List Part) (u w v : Vertex) → Spawns xs u v → Spawns xs w v → u ≡ w
same_spawn xs u w v a b =
    let x : Part = a.0 in
    let y : Part = b.0 in
    let e = child_same u.path w.path (spawns (take u.number x.events)) (spawns (take w.number y.events)) (sym a.4 ∙ b.4) in
    let one : x ≡ y = one_part a.1 (ap (part_at xs) e.0 ∙ b.1) in
    let event : slice_get y.events u.number ≡ Some Spawn = subst (λ (z : Part). slice_get z.events u.number ≡ Some Spawn) one a.2 in
    let count : spawns (take u.number y.events) ≡ spawns (take w.number y.events) = subst (λ (z : Part). spawns (take u.number z.events) ≡ spawns (take w.number y.events)) one e.1 in
    let mine : IsSpawnPlace y.events (spawns (take w.number y.events)) u.number = record { event = event; before = count } in
    let theirs : IsSpawnPlace y.events (spawns (take w.number y.events)) w.number = record { event = b.2; before = refl } in
    vertex_same u w e.0 (one_place y.events (spawns (take w.number y.events)) u.number w.number mine theirs)

-- one end is joined by a vertex
same_join : (xs : List Part) (u w v : Vertex) → Joins xs u v → Joins xs w v → u ≡ w
same_join xs u w v a b =
    let x : Part = b.0 in
    let one : a.0 ≡ b.0 = one_part a.2 b.2 in
    let mine : slice_get x.events v.number ≡ Some (Join u.path) = subst (λ (z : Part). slice_get z.events v.number ≡ Some (Join u.path)) one a.3 in
    let event : Some (Join u.path) ≡ Some (Join w.path) = sym mine ∙ b.3 in
    let path : u.path ≡ w.path = cc in
    let ends : a.1 ≡ b.1 = one_part a.4 (ap (part_at xs) path ∙ b.4) in
    vertex_same u w path (omega (arith, a.5, b.5, ap (λ (z : Part). length z.events) ends))

spawn_vertex_is : (xs : List Part) (u v : Vertex) → Spawns xs u v → IsVertex xs u
spawn_vertex_is xs u v a = (a.0, a.1, slice_get_within a.0.events u.number Spawn a.2)

join_vertex_is : (xs : List Part) (u v : Vertex) → Joins xs u v → IsVertex xs u
join_vertex_is xs u v a = let below : u.number < length a.1.events = omega (arith, a.5) in (a.1, a.4, below)

module _ (xs : List Part) (finished : AreFinished xs) (apart : AreApart xs) (g : CostGraph) (h : IsGraphOf xs g) where
  -- the number of a vertex with an edge
  edge_number : (u : Vertex) (v : ℕ) → v < vertex_total g → IsVertex xs u → IsEdge xs u (name_of g v) → (a : ℕ) × IsNumber xs u a × Edge g a v
  edge_number u v v_lt is e =
      let r = vertex_number xs u is in
      let a_lt : r.0 < vertex_total g = omega (arith, number_small xs u r.0 r.1, total xs apart g h) in
      let named : u ≡ name_of g r.0 = sym (name_is xs apart g h r.0 ∙ number_named xs u r.0 r.1) in
      (r.0, r.1, (h.edges r.0 v a_lt v_lt).1 (subst (λ (w : Vertex). IsEdge xs w (name_of g v)) named e))

  one_name : (a b : ℕ) → a < vertex_total g → b < vertex_total g → name_of g a ≡ name_of g b → a ≡ b
  one_name a b a_lt b_lt e =
      one_number xs (name_of g b) a b apart (subst (λ (w : Vertex). IsNumber xs w a) e (number_of_name xs apart g h a a_lt)) (number_of_name xs apart g h b b_lt)

  -- ---- the Spawn of a thread

  first_name : (t : ℕ) → t < length xs → name_of g (first_vertex g t) ≡ vertex_at xs t 0
  first_name t lt =
      let first : first_vertex g t ≡ first_in xs t + 0 = omega (arith, first_same xs apart g h t) in
      name_is xs apart g h (first_vertex g t) ∙ name_at xs t 0 (first_vertex g t) lt (has_events xs finished apart t lt) first

  first_small : (t : ℕ) → t < length xs → first_vertex g t < vertex_total g
  first_small t lt = omega (arith, number_small xs (vertex_at xs t 0) (first_in xs t + 0) (number_at xs t 0 lt (has_events xs finished apart t lt)), first_same xs apart g h t, total xs apart g h)

  spawn_of : (t a : ℕ) → t < length xs → Edge g a (first_vertex g t) → Spawns xs (name_of g a) (vertex_at xs t 0)
  spawn_of t a lt e =
      let edge = (h.edges a (first_vertex g t) (h.kept.ends a (first_vertex g t) e) (first_small t lt)).0 e in
      first_edge xs finished apart t lt (name_of g a) (subst (IsEdge xs (name_of g a)) (first_name t lt) edge)

  of_spawn : (t : ℕ) (u : Vertex) → t < length xs → Spawns xs u (vertex_at xs t 0) → (a : ℕ) × IsNumber xs u a × Edge g a (first_vertex g t)
  of_spawn t u lt s =
      let edge : IsEdge xs u (vertex_at xs t 0) = inr (inl s) in
      edge_number u (first_vertex g t) (first_small t lt) (spawn_vertex_is xs u (vertex_at xs t 0) s) (subst (IsEdge xs u) (sym (first_name t lt)) edge)

  spawn_said : (t : ℕ) → t < length xs → IsLineOf (Spawns xs) (codes "spawn") (vertex_at xs t 0) (spawn_lines g t)
  spawn_said t lt =
      let v : ℕ = first_vertex g t in
      let same : (a b : ℕ) → Edge g a v → Edge g b v → a ≡ b = λ a b c d.
      one_name a b (h.kept.ends a v c) (h.kept.ends b v d) (same_spawn xs (name_of g a) (name_of g b) (vertex_at xs t 0) (spawn_of t a lt c) (spawn_of t b lt d)) in
      elim (one_or_none (parents_at g v) (h.kept.rising v) same) [
        | inl none ↦ inr ((λ u s. let r = of_spawn t u lt s in no_member r.0 (subst (λ (l : List ℕ). Contains l r.0) none r.2)), ap (flat_map (edge_line g (codes "spawn") v)) none)
        | inr one ↦
            let a : ℕ = one.0 in
            let c : Edge g a v = subst (λ (l : List ℕ). Contains l a) (sym one.1) (member_head a []) in
            let s = spawn_of t a lt c in
            let text : spawn_lines g t ≡ edge_text (codes "spawn") (name_of g a) (vertex_at xs t 0) =
            ap (flat_map (edge_line g (codes "spawn") v)) one.1 ∙ one_line (edge_line g (codes "spawn") v) a ∙ ap (λ (w : Vertex). edge_text (codes "spawn") (name_of g a) w) (first_name t lt) in
            inl (name_of g a, record { edge = s; only = λ w e. same_spawn xs w (name_of g a) (vertex_at xs t 0) e s }, text)
      ]

  -- ---- the Join at a vertex

  no_first_join : (u v : Vertex) → v.number ≡ 0 → Joins xs u v → ⊥
  no_first_join u v zero_is j =
      let start : slice_get j.0.events v.number ≡ Some Start = (finished.starts j.0 v.number (part_among xs v.path j.0 j.2)).1 zero_is in
      let z : Some Start ≡ Some (Join u.path) = sym start ∙ j.3 in
      let clash : ⊥ = cc in
      clash

  -- a Join is no edge from the vertex before
  not_before : (u : Vertex) (a v : ℕ) (v_lt : v < vertex_total g) → IsNumber xs u a → Joins xs u (name_of g v) → a + 1 ≢ v
  not_before u a v v_lt m j e =
      let n = number_of_name xs apart g h v v_lt in
      let k : ℕ = (name_of g v).number in
      let here = part_here xs n.thread apart n.within in
      let some : k ≢ 0 = λ z. no_first_join u (name_of g v) z j in
      let place : a ≡ first_in xs n.thread + (k - 1) = omega (arith, e, n.is, some) in
      let below : k - 1 < length (part_nth xs n.thread).events = omega (arith, n.below) in
      let named : vertex_at xs n.thread (k - 1) ≡ u = sym (name_at xs n.thread (k - 1) a n.within below place) ∙ number_named xs u a m in
      let path : (part_nth xs n.thread).path ≡ u.path = ap (λ (w : Vertex). w.path) named in
      let number : k - 1 ≡ u.number = ap (λ (w : Vertex). w.number) named in
      let one : part_nth xs n.thread ≡ j.1 = one_part here (ap (part_at xs) path ∙ j.4) in
      omega (arith, number, some, n.below, j.5, ap (λ (x : Part). length x.events) one)

  -- what an edge to a later vertex is, if it is none from the vertex before
  later_edge : (a v : ℕ) (a_lt : a < vertex_total g) (v_lt : v < vertex_total g) → (name_of g v).number ≢ 0 → a + 1 ≢ v → IsEdge xs (name_of g a) (name_of g v) → Joins xs (name_of g a) (name_of g v)
  later_edge a v a_lt v_lt some apart_from (inl c) =
      let m = number_of_name xs apart g h a a_lt in
      let n = number_of_name xs apart g h v v_lt in
      let same : m.thread ≡ n.thread = apart m.thread n.thread m.within n.within (m.path_is ∙ c.1 ∙ sym n.path_is) in
      absurd (apart_from (omega (arith, m.is, n.is, c.2, ap (first_in xs) same)))
  later_edge a v a_lt v_lt some apart_from (inr (inl s)) = absurd (some s.5)
  later_edge a v a_lt v_lt some apart_from (inr (inr j)) = j

  kept_apart : (v a : ℕ) → Contains (joins_to v (parents_at g v)) a → a + 1 ≢ v
  kept_apart v a c e =
      let passes : not (nat_eq (a + 1) v) ≡ true = from_filter (λ u. not (nat_eq (u + 1) v)) (parents_at g v) a c in
      let fails : not (nat_eq (a + 1) v) ≡ false = ap not (eq-eqb (a + 1) v e) in
      let z : true ≡ false = sym passes ∙ fails in
      let clash : ⊥ = cc in
      clash

  join_of : (v a : ℕ) → v < vertex_total g → (name_of g v).number ≢ 0 → Contains (joins_to v (parents_at g v)) a → Joins xs (name_of g a) (name_of g v)
  join_of v a v_lt some c =
      let e : Edge g a v = out_filter (λ u. not (nat_eq (u + 1) v)) (parents_at g v) a c in
      let a_lt = h.kept.ends a v e in
      later_edge a v a_lt v_lt some (kept_apart v a c) ((h.edges a v a_lt v_lt).0 e)

  of_join : (v : ℕ) (u : Vertex) → v < vertex_total g → Joins xs u (name_of g v) → (a : ℕ) × Contains (joins_to v (parents_at g v)) a
  of_join v u v_lt j =
      let r = edge_number u v v_lt (join_vertex_is xs u (name_of g v) j) (inr (inr j)) in
      let other = not_before u r.0 v v_lt r.1 j in
      (r.0, in_filter (λ w. not (nat_eq (w + 1) v)) (parents_at g v) r.0 r.2 (ap not (ne_eqb (r.0 + 1) v other)))

  join_said : (v : ℕ) → v < vertex_total g → IsLineOf (Joins xs) (codes "join") (name_of g v) (join_lines g v)
  join_said v v_lt =
      elim (cases_eq (name_of g v).number 0) [
        | inl first ↦ inr ((λ u j. no_first_join u (name_of g v) first j), ap (λ k. if nat_eq k 0 then [] else flat_map (edge_line g (codes "join") v) (joins_to v (parents_at g v))) first)
        | inr some ↦
            let lines : join_lines g v ≡ flat_map (edge_line g (codes "join") v) (joins_to v (parents_at g v)) =
            ap (λ (b : Bool). if b then [] else flat_map (edge_line g (codes "join") v) (joins_to v (parents_at g v))) (ne_eqb (name_of g v).number 0 some) in
            let small : (a : ℕ) → Contains (joins_to v (parents_at g v)) a → a < vertex_total g = λ a c. h.kept.ends a v (out_filter (λ u. not (nat_eq (u + 1) v)) (parents_at g v) a c) in
            let same : (a b : ℕ) → Contains (joins_to v (parents_at g v)) a → Contains (joins_to v (parents_at g v)) b → a ≡ b = λ a b c d.
            one_name a b (small a c) (small b d) (same_join xs (name_of g a) (name_of g b) (name_of g v) (join_of v a v_lt some c) (join_of v b v_lt some d)) in
            elim (one_or_none (joins_to v (parents_at g v)) (IsStrictlyIncreasing-filter (λ u. not (nat_eq (u + 1) v)) (parents_at g v) (h.kept.rising v)) same) [
              | inl none ↦ inr ((λ u j. let r = of_join v u v_lt j in no_member r.0 (subst (λ (l : List ℕ). Contains l r.0) none r.1)), lines ∙ ap (flat_map (edge_line g (codes "join") v)) none)
              | inr one ↦
                  let a : ℕ = one.0 in
                  let c : Contains (joins_to v (parents_at g v)) a = subst (λ (l : List ℕ). Contains l a) (sym one.1) (member_head a []) in
                  let j = join_of v a v_lt some c in
                  let text : join_lines g v ≡ edge_text (codes "join") (name_of g a) (name_of g v) = lines ∙ ap (flat_map (edge_line g (codes "join") v)) one.1 ∙ one_line (edge_line g (codes "join") v) a in
                  inl (name_of g a, record { edge = j; only = λ w e. same_join xs w (name_of g a) (name_of g v) e j }, text)
            ]
      ]

  pub lines_said : HasLinesOf xs g
  lines_said =
      record {
        spawns = λ t lt.
            let t_lt = thread_is xs apart g h t lt in
            let path : vertex_at xs t 0 ≡ record { path = (thread_at g t).path; number = 0 } = ap (λ (x : Thread). let v : Vertex = record { path = x.path; number = 0 } in v) (sym (thread_same xs apart g h t t_lt)) in
            subst (λ (v : Vertex). IsLineOf (Spawns xs) (codes "spawn") v (spawn_lines g t)) path (spawn_said t t_lt);
        joins = join_said;
      }
