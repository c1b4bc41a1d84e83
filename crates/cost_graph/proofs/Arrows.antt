-- The parents of each kind of vertex, from the relation of edges.
use Rattle.std.proofs.Common.{◌≡◌, ◌≢◌, ℕ, zero, suc, ◌+◌, ◌-◌, ◌<◌, List, [], ◌∷◌, length, map, take, get_or, refl, sym, ap, ◌∙◌, subst, inl, inr, arith, ◌⊎◌}
use Rattle.std.specs.Prelude.{Some, slice_get}
use Rattle.std.specs.List.{Contains}
use Rattle.std.specs.List.Sorted.{IsStrictlyIncreasing}
use Rattle.std.proofs.lemmas.List.{length-append, take_more, take_all}
use Rattle.std.proofs.lemmas.Option.{slice_get_within}
use Rattle.priml_syntax.specs.declared.event.Event.TheVariants.{Start, Join}
use Rattle.priml_syntax.specs.Paths.{child_path}
use Rattle.priml_syntax.specs.Events.{spawns}
use Rattle.cost_graph.specs.Graph.{Vertex, name_in}
use Rattle.cost_graph.specs.Records.{Part, part_at, end_of, IsVertex, Continues, Spawns, Joins, IsEdge, AreFinished, thread_of}
use Rattle.cost_graph.specs.Inside.Tables.{part_nth, first_in, vertex_at, IsNumber, AreParents, IsSpawnPlace, IsKthSpawn, HasSpawn, ArePair}
use Rattle.cost_graph.proofs.Members.{no_member, member_cons, member_head, member_tail}
use Rattle.cost_graph.proofs.Parts.{AreApart, part_found, part_here, part_among, nth_among, one_part, part_of_member, number_at, number_named, one_number}
use Rattle.cost_graph.proofs.Spawns.{one_place}

-- ---- rising lists of few numbers

rises_none : IsStrictlyIncreasing []
rises_none k lt = let z : k + 1 < 0 = lt in absurd (omega (arith, z))

rises_one : (a : ℕ) → IsStrictlyIncreasing (a ∷ [])
rises_one a k lt = absurd (omega (arith, lt))

rises_two : (a b : ℕ) → a < b → IsStrictlyIncreasing (a ∷ b ∷ [])
rises_two a b less zero lt = less
rises_two a b less (suc k) lt = absurd (omega (arith, lt))

only_one : (a x : ℕ) → Contains (a ∷ []) x → a ≡ x
only_one a x c = elim (member_cons a [] x c) [ inl e ↦ e | inr late ↦ absurd (no_member x late) ]

-- ---- paths of children

child_long : (p : List ℕ) (k : ℕ) → length (child_path p k) ≡ length p + 1
child_long p k = length-append p (k ∷ [])

pub child_same : (p q : List ℕ) (j k : ℕ) → child_path p j ≡ child_path q k → (p ≡ q) × (j ≡ k)
child_same [] [] j k e = let s : j ≡ k = cc in (refl, s)
child_same [] (y ∷ q) j k e =
    let l = ap length e in
    let m = child_long q k in
    absurd (omega (arith, l, m))
child_same (x ∷ p) [] j k e =
    let l = ap length e in
    let m = child_long p j in
    absurd (omega (arith, l, m))
child_same (x ∷ p) (y ∷ q) j k e =
    let head : x ≡ y = cc in
    let tail : child_path p j ≡ child_path q k = cc in
    let r = child_same p q j k tail in
    let same : x ∷ p ≡ y ∷ q = ap (λ z. z ∷ p) head ∙ ap (λ l. y ∷ l) r.0 in
    (same, r.1)

-- a path is its last part's child of the rest
last_part : (p : List ℕ) (depth : ℕ) → length p ≡ depth + 1 → p ≡ child_path (take depth p) (get_or p depth 0)
last_part p depth long = sym (take_all (depth + 1) p (omega (arith, long))) ∙ take_more p depth 0 (omega (arith, long))

module _ (xs : List Part) (finished : AreFinished xs) (apart : AreApart xs) (t : ℕ) (t_lt : t < length xs) where
  here : part_at xs (part_nth xs t).path ≡ Some (part_nth xs t)
  here = part_here xs t apart t_lt

  begins : slice_get (part_nth xs t).events 0 ≡ Some Start
  begins = (finished.starts (part_nth xs t) 0 (nth_among xs t t_lt)).1 refl

  pub has_events : 0 < length (part_nth xs t).events
  has_events = slice_get_within (part_nth xs t).events 0 Start begins

  is_vertex : (n : ℕ) → n < length (part_nth xs t).events → IsVertex xs (vertex_at xs t n)
  is_vertex n lt = (part_nth xs t, here, lt)

  -- ---- the first vertex

  -- only a Spawn leads there
  pub first_edge : (u : Vertex) → IsEdge xs u (vertex_at xs t 0) → Spawns xs u (vertex_at xs t 0)
  first_edge u (inl h) = absurd (omega (arith, h.2))
  first_edge u (inr (inl h)) = h
  first_edge u (inr (inr h)) =
      let start : slice_get h.0.events 0 ≡ Some Start = (finished.starts h.0 0 (part_among xs (part_nth xs t).path h.0 h.2)).1 refl in
      let join : slice_get h.0.events 0 ≡ Some (Join u.path) = h.3 in
      let z : Some Start ≡ Some (Join u.path) = sym start ∙ join in
      let clash : ⊥ = cc in
      absurd clash

  -- a path of one part has no parent
  pub root_parents : length (part_nth xs t).path ≡ 1 → AreParents xs (vertex_at xs t 0) []
  root_parents long = record { rising = rises_none; has = λ u a n e. absurd (none u (first_edge u e)); only = λ a c. absurd (no_member a c) }
    where
      none : (u : Vertex) → Spawns xs u (vertex_at xs t 0) → ⊥
      none u h =
          let x : Part = h.0 in
          let found = part_found xs u.path x h.1 in
          let short : length u.path ≡ 0 = omega (arith, long, ap length h.4, child_long u.path (spawns (take u.number x.events))) in
          let x_short : length x.path ≡ 0 = omega (arith, short, ap length found.3) in
          let other : length x.path ≢ 1 = λ e. omega (arith, x_short, e) in
          let r = finished.spawned x (part_among xs u.path x h.1) other in
          omega (arith, x_short, ap length r.3, child_long r.0.path r.1)

  -- a longer path has a parent with a Spawn
  pub spawner_there : (depth : ℕ) → length (part_nth xs t).path ≡ depth + 1 → 0 < depth → HasSpawn xs (take depth (part_nth xs t).path) (get_or (part_nth xs t).path depth 0)
  spawner_there depth long deep =
      let p : List ℕ = (part_nth xs t).path in
      let other : length p ≢ 1 = λ e. omega (arith, long, deep, e) in
      let r = finished.spawned (part_nth xs t) (nth_among xs t t_lt) other in
      let same = child_same (take depth p) r.0.path (get_or p depth 0) r.1 (sym (last_part p depth long) ∙ r.3) in
      record { part = r.0; is = ap (part_at xs) same.0 ∙ part_of_member xs r.0 apart r.2; some = subst (λ k. k < spawns r.0.events) (sym same.1) r.4 }

  pub spawned_parents : (depth n a : ℕ) → length (part_nth xs t).path ≡ depth + 1 → IsKthSpawn xs (take depth (part_nth xs t).path) (get_or (part_nth xs t).path depth 0) n
      → IsNumber xs (record { path = take depth (part_nth xs t).path; number = n }) a → AreParents xs (vertex_at xs t 0) (a ∷ [])
  spawned_parents depth n a long spawn number = record { rising = rises_one a; has = λ u b m e. same u b m (first_edge u e); only = only }
    where
      same : (u : Vertex) (b : ℕ) → IsNumber xs u b → Spawns xs u (vertex_at xs t 0) → Contains (a ∷ []) b
      same u b m h =
          let x : Part = h.0 in
          let e = child_same (take depth (part_nth xs t).path) u.path (get_or (part_nth xs t).path depth 0) (spawns (take u.number x.events)) (sym (last_part (part_nth xs t).path depth long) ∙ h.4) in
          let one : spawn.part ≡ x = one_part (ap (part_at xs) (sym e.0) ∙ spawn.is) h.1 in
          let mine : IsSpawnPlace x.events (get_or (part_nth xs t).path depth 0) n = subst (λ (y : Part). IsSpawnPlace y.events (get_or (part_nth xs t).path depth 0) n) one spawn.place in
          let theirs : IsSpawnPlace x.events (get_or (part_nth xs t).path depth 0) u.number = record { event = h.2; before = sym e.1 } in
          let place : n ≡ u.number = one_place x.events (get_or (part_nth xs t).path depth 0) n u.number mine theirs in
          let moved : IsNumber xs u a = subst (λ (v : Vertex). IsNumber xs v a) (vertex_same (take depth (part_nth xs t).path) n u e.0 place) number in
          subst (Contains (a ∷ [])) (one_number xs u a b apart moved m) (member_head a [])
        where
          vertex_same : (q : List ℕ) (k : ℕ) (u : Vertex) → q ≡ u.path → k ≡ u.number → (let v : Vertex = record { path = q; number = k } in v) ≡ u
          vertex_same q k u e f = ap (λ (r : List ℕ). let v : Vertex = record { path = r; number = k } in v) e ∙ ap (λ j. let v : Vertex = record { path = u.path; number = j } in v) f

      only : (b : ℕ) → Contains (a ∷ []) b → (u : Vertex) × IsNumber xs u b × IsEdge xs u (vertex_at xs t 0)
      only b c =
          let u : Vertex = record { path = take depth (part_nth xs t).path; number = n } in
          let child : (part_nth xs t).path ≡ child_path (take depth (part_nth xs t).path) (spawns (take n spawn.part.events)) = last_part (part_nth xs t).path depth long ∙ ap (child_path (take depth (part_nth xs t).path)) (sym spawn.place.before) in
          let edge : Spawns xs u (vertex_at xs t 0) = (spawn.part, spawn.is, spawn.place.event, is_vertex 0 has_events, child, refl) in
          (u, subst (IsNumber xs u) (only_one a b c) number, inr (inl edge))

  -- ---- a later vertex

  module _ (n : ℕ) (later : 0 < n) (n_lt : n < length (part_nth xs t).events) where
    before_number : IsNumber xs (vertex_at xs t (n - 1)) (first_in xs t + (n - 1))
    before_number = number_at xs t (n - 1) t_lt (omega (arith, n_lt))

    continues : Continues xs (vertex_at xs t (n - 1)) (vertex_at xs t n)
    continues = let step : n ≡ (n - 1) + 1 = omega (arith, later) in (is_vertex n n_lt, refl, step)

    -- the vertex before, or the end of a thread that is joined
    cases_edge : (u : Vertex) (a : ℕ) → IsNumber xs u a → IsEdge xs u (vertex_at xs t n) → (first_in xs t + (n - 1) ≡ a) ⊎ ((y : Part) × (slice_get (part_nth xs t).events n ≡ Some (Join u.path)) × (part_at xs u.path ≡ Some y) × (length y.events ≡ u.number + 1))
    cases_edge u a m (inl h) =
        let same : m.thread ≡ t = apart m.thread t m.within t_lt (m.path_is ∙ h.1) in
        let step : n ≡ u.number + 1 = h.2 in
        inl (omega (arith, m.is, ap (first_in xs) same, step))
    cases_edge u a m (inr (inl h)) = let z : n ≡ 0 = h.5 in absurd (omega (arith, z, later))
    cases_edge u a m (inr (inr h)) =
        let same : h.0 ≡ part_nth xs t = one_part h.2 here in
        inr (h.1, subst (λ (x : Part). slice_get x.events n ≡ Some (Join u.path)) same h.3, h.4, h.5)

    pub plain_parents : ((p : List ℕ) → slice_get (part_nth xs t).events n ≡ Some (Join p) → ⊥) → AreParents xs (vertex_at xs t n) ((first_in xs t + (n - 1)) ∷ [])
    plain_parents plain =
        record {
          rising = rises_one (first_in xs t + (n - 1));
          has = λ u a m e. elim (cases_edge u a m e) [ inl s ↦ subst (Contains ((first_in xs t + (n - 1)) ∷ [])) s (member_head (first_in xs t + (n - 1)) []) | inr j ↦ absurd (plain u.path j.1) ];
          only = λ a c. (vertex_at xs t (n - 1), subst (IsNumber xs (vertex_at xs t (n - 1))) (only_one (first_in xs t + (n - 1)) a c) before_number, inl continues);
        }

    pub join_parents : (b : List ℕ) (y : Part) (last : ℕ) (ps : List ℕ) → slice_get (part_nth xs t).events n ≡ Some (Join b) → part_at xs b ≡ Some y → IsNumber xs (end_of y) last
        → ArePair (first_in xs t + (n - 1)) last ps → AreParents xs (vertex_at xs t n) ps
    join_parents b y last ps join there number pair =
        record {
          rising = risen pair;
          has = λ u a m e. elim (cases_edge u a m e) [ inl s ↦ subst (Contains ps) s (among_before pair) | inr j ↦ subst (Contains ps) (joined_same u a m j) (among_last pair) ];
          only = λ a c. from (apart_pair a c pair);
        }
      where
        full : 0 < length y.events
        full = slice_get_within y.events 0 Start ((finished.starts y 0 (part_among xs b y there)).1 refl)

        ends_edge : Joins xs (end_of y) (vertex_at xs t n)
        ends_edge =
            let path : y.path ≡ b = (part_found xs b y there).3 in
            let event : slice_get (part_nth xs t).events n ≡ Some (Join y.path) = join ∙ ap (λ (p : List ℕ). Some (Join p)) (sym path) in
            let whole : length y.events ≡ (length y.events - 1) + 1 = omega (arith, full) in
            (part_nth xs t, y, here, event, ap (part_at xs) path ∙ there, whole)

        differ : first_in xs t + (n - 1) ≢ last
        differ e =
            let mine = number_named xs (vertex_at xs t (n - 1)) (first_in xs t + (n - 1)) before_number in
            let theirs = number_named xs (end_of y) last number in
            let same : vertex_at xs t (n - 1) ≡ end_of y = sym mine ∙ ap (λ k. name_of_number k) e ∙ theirs in
            let path : (part_nth xs t).path ≡ y.path = ap (λ (v : Vertex). v.path) same in
            let number_same : n - 1 ≡ length y.events - 1 = ap (λ (v : Vertex). v.number) same in
            let one : y ≡ part_nth xs t = one_part (ap (part_at xs) ((part_found xs b y there).3) ∙ there) (ap (part_at xs) (sym path) ∙ here) in
            omega (arith, number_same, n_lt, later, full, ap (λ (x : Part). length x.events) one)
          where
            name_of_number : ℕ → Vertex
            name_of_number k = name_in (map thread_of xs) k

        joined_same : (u : Vertex) (a : ℕ) → IsNumber xs u a → (z : Part) × (slice_get (part_nth xs t).events n ≡ Some (Join u.path)) × (part_at xs u.path ≡ Some z) × (length z.events ≡ u.number + 1) → last ≡ a
        joined_same u a m j =
            let event : Some (Join u.path) ≡ Some (Join b) = sym j.1 ∙ join in
            let path : u.path ≡ b = cc in
            let one : j.0 ≡ y = one_part (ap (part_at xs) (sym path) ∙ j.2) there in
            let number_is : u.number ≡ length y.events - 1 = omega (arith, j.3, ap (λ (x : Part). length x.events) one) in
            let y_path : y.path ≡ b = (part_found xs b y there).3 in
            let moved : IsNumber xs u last = record { thread = number.thread; within = number.within; path_is = number.path_is ∙ y_path ∙ sym path; below = subst (λ k. k < length (part_nth xs number.thread).events) (sym number_is) number.below; is = number.is ∙ ap (λ k. first_in xs number.thread + k) (sym number_is) } in
            one_number xs u last a apart moved m

        risen : ArePair (first_in xs t + (n - 1)) last ps → IsStrictlyIncreasing ps
        risen (inl h) = subst IsStrictlyIncreasing (sym h.1) (rises_two (first_in xs t + (n - 1)) last h.0)
        risen (inr h) = subst IsStrictlyIncreasing (sym h.1) (rises_two last (first_in xs t + (n - 1)) (omega (arith, h.0, differ)))

        among_before : ArePair (first_in xs t + (n - 1)) last ps → Contains ps (first_in xs t + (n - 1))
        among_before (inl h) = subst (λ (l : List ℕ). Contains l (first_in xs t + (n - 1))) (sym h.1) (member_head (first_in xs t + (n - 1)) (last ∷ []))
        among_before (inr h) = subst (λ (l : List ℕ). Contains l (first_in xs t + (n - 1))) (sym h.1) (member_tail last ((first_in xs t + (n - 1)) ∷ []) (first_in xs t + (n - 1)) (member_head (first_in xs t + (n - 1)) []))

        among_last : ArePair (first_in xs t + (n - 1)) last ps → Contains ps last
        among_last (inl h) = subst (λ (l : List ℕ). Contains l last) (sym h.1) (member_tail (first_in xs t + (n - 1)) (last ∷ []) last (member_head last []))
        among_last (inr h) = subst (λ (l : List ℕ). Contains l last) (sym h.1) (member_head last ((first_in xs t + (n - 1)) ∷ []))

        two_cases : (x z a : ℕ) → Contains (x ∷ z ∷ []) a → (x ≡ a) ⊎ (z ≡ a)
        two_cases x z a c = elim (member_cons x (z ∷ []) a c) [ inl e ↦ inl e | inr l ↦ inr (only_one z a l) ]

        apart_pair : (a : ℕ) → Contains ps a → ArePair (first_in xs t + (n - 1)) last ps → (first_in xs t + (n - 1) ≡ a) ⊎ (last ≡ a)
        apart_pair a c (inl h) = two_cases (first_in xs t + (n - 1)) last a (subst (λ (l : List ℕ). Contains l a) h.1 c)
        apart_pair a c (inr h) = elim (two_cases last (first_in xs t + (n - 1)) a (subst (λ (l : List ℕ). Contains l a) h.1 c)) [ inl e ↦ inr e | inr e ↦ inl e ]

        from : {a : ℕ} → (first_in xs t + (n - 1) ≡ a) ⊎ (last ≡ a) → (u : Vertex) × IsNumber xs u a × IsEdge xs u (vertex_at xs t n)
        from (inl e) = (vertex_at xs t (n - 1), subst (IsNumber xs (vertex_at xs t (n - 1))) e before_number, inl continues)
        from (inr e) = (end_of y, subst (IsNumber xs (end_of y)) e number, inr (inr ends_edge))
