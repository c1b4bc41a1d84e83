-- Tables and lists of parents that are built up over records, and the graph that they make.
use Rattle.std.proofs.Common.{◌≡◌, ℕ, ◌+◌, ◌-◌, ◌<◌, List, [], ◌∷◌, ◌++◌, length, map, take, get_or, refl, sym, ap, ◌∙◌, subst, inl, inr, arith}
use Rattle.std.specs.Prelude.{Some, slice_get}
use Rattle.std.specs.List.{Contains, sum_by}
use Rattle.std.specs.List.Sorted.{IsStrictlyIncreasing}
use Rattle.std.specs.declared.vec.Vec.{Vec}
use Rattle.std.specs.declared.alloc.Global.{Global}
use Rattle.std.proofs.lemmas.Bool.{cases_lt}
use Rattle.std.proofs.lemmas.List.{get_or_past, get_or_read, get_or-append_right, length-append, length-map, map-append, take_more}
use Rattle.std.proofs.lemmas.Option.{slice_get-get_or}
use Rattle.std.proofs.Math.ListN.{get_or-append}
use Rattle.priml_syntax.specs.declared.record.Record.{Record}
use Rattle.priml_syntax.specs.declared.event.Event.{Event}
use Rattle.priml_syntax.specs.Read.{read_record}
use Rattle.priml_syntax.specs.Records.{InPathOrder}
use Rattle.priml_syntax.specs.Values.{Entry}
use Rattle.cost_graph.specs.declared.graph.Thread.{Thread}
use Rattle.cost_graph.specs.declared.records.Tables.{Tables}
use Rattle.cost_graph.specs.Graph.{Vertex, thread_at, first_vertex, name_in, IsGraph}
use Rattle.cost_graph.specs.View.{lists, graph_of}
use Rattle.cost_graph.specs.Records.{Part, part_of, parts_of, parts_in, part_at, event_total, end_of, thread_of, AreFinished, IsEdge, IsGraphOf}
use Rattle.cost_graph.specs.Inside.Tables.{part_nth, first_in, vertex_at, IsNumber, AreParents, AreRight, AreSpawnPlaces, AreFirstsOf, AreKnown}
use Rattle.cost_graph.proofs.Members.{no_member}
use Rattle.cost_graph.proofs.Grown.{list_at, lists_length}
use Rattle.cost_graph.proofs.Parts.{AreApart, parts_length, nth_of, apart_in, apart_of, threads_in_order, part_here, one_part, events_few, firsts_same, totals_same, thread_nth, number_small, number_at, number_named, numbered, name_at}
use Rattle.cost_graph.proofs.Arrows.{has_events}

-- ---- lists with one item more

pub parts_more : (rs : List Record) (i : ℕ) (r : Record) → i < length rs → r ≡ get_or rs i r
    → map thread_of (parts_in (take (i + 1) rs)) ≡ map thread_of (parts_in (take i rs)) ++ thread_of (part_of (read_record r)) ∷ []
parts_more rs i r lt e =
    ap (λ l. map thread_of (parts_in l)) (take_more rs i r lt)
    ∙ ap (λ l. map thread_of (map part_of l)) (map-append read_record (take i rs) (get_or rs i r ∷ []))
    ∙ ap (map thread_of) (map-append part_of (map read_record (take i rs)) (read_record (get_or rs i r) ∷ []))
    ∙ map-append thread_of (parts_in (take i rs)) (part_of (read_record (get_or rs i r)) ∷ [])
    ∙ ap (λ (z : Record). map thread_of (parts_in (take i rs)) ++ thread_of (part_of (read_record z)) ∷ []) (sym e)

pub lists_push : (now next : List (Vec ℕ Global)) (v : Vec ℕ Global) → next ≡ now ++ v ∷ [] → lists next ≡ lists now ++ v.items ∷ []
lists_push now next v e = ap lists e ∙ map-append (λ (l : Vec ℕ Global). l.items) now (v ∷ [])

-- what holds of each list, and of one more
pub each_more : (P : ℕ → List ℕ → Type 0) (ls : List (List ℕ)) (l : List ℕ) (n : ℕ) → length ls ≡ n → ((v : ℕ) → v < n → P v (get_or ls v [])) → P n l → (v : ℕ) → v < n + 1 → P v (get_or (ls ++ l ∷ []) v [])
each_more P ls l n long before here v lt =
    elim (cases_lt v n) [
      | inl early ↦ subst (P v) (sym (get_or-append ls (l ∷ []) [] v (omega (arith, early, long)))) (before v early)
      | inr late ↦
          let same : n ≡ v = omega (arith, late, lt) in
          let zero_is : v - length ls ≡ 0 = omega (arith, same, long) in
          let at : get_or (ls ++ l ∷ []) v [] ≡ l = get_or-append_right ls (l ∷ []) (length ls) v [] refl (omega (arith, late, long)) ∙ ap (λ k. get_or (l ∷ []) k []) zero_is in
          subst (P v) (sym at) (subst (λ k. P k l) same here)
    ]

-- the parents of one vertex more
pub right_more : (xs : List Part) (ls : List (List ℕ)) (l : List ℕ) (t n : ℕ) → t < length xs → n < length (part_nth xs t).events → length ls ≡ first_in xs t + n → AreRight xs ls → AreParents xs (vertex_at xs t n) l → AreRight xs (ls ++ l ∷ [])
right_more xs ls l t n lt n_lt long right here v v_lt =
    let named : AreParents xs (name_in (map thread_of xs) (length ls)) l = subst (λ (w : Vertex). AreParents xs w l) (sym (name_at xs t n (length ls) lt n_lt long)) here in
    each_more (λ (w : ℕ) (m : List ℕ). AreParents xs (name_in (map thread_of xs) w) m) ls l (length ls) refl right named v (omega (arith, v_lt, length-append ls (l ∷ [])))

-- ---- reads of the tables

pub apart_known : (rs : List Record) (k : Tables) → AreKnown rs k → AreApart (parts_in rs)
apart_known rs k known = apart_in rs known.in_order

pub first_read : (rs : List Record) (k : Tables) (s a : ℕ) → AreKnown rs k → s < length rs → a ≡ get_or k.firsts.items s a → a ≡ first_in (parts_in rs) s
first_read rs k s a known lt e =
    let s_lt : s < length (parts_in rs) = omega (arith, lt, parts_length rs) in
    get_or_read k.firsts.items s a (omega (arith, s_lt, known.firsts.covers)) e 0 ∙ known.firsts.are s s_lt

pub places_read : (rs : List Record) (k : Tables) (s : ℕ) (v : Vec ℕ Global) → AreKnown rs k → s < length rs → v ≡ get_or k.spawns.items s v → AreSpawnPlaces (part_nth (parts_in rs) s).events v.items
places_read rs k s v known lt e =
    let s_lt : s < length (parts_in rs) = omega (arith, lt, parts_length rs) in
    subst (AreSpawnPlaces (part_nth (parts_in rs) s).events) (list_at k.spawns.items s v (omega (arith, s_lt, known.spawns.covers, lists_length k.spawns.items)) e) (known.spawns.are s s_lt)

pub events_read : (rs : List Record) (t : ℕ) (r : Record) (es : List Event) → t < length rs → r ≡ get_or rs t r → es ≡ (get_or rs t r).events.items → es ≡ (part_nth (parts_in rs) t).events
events_read rs t r es lt e same = same ∙ ap (λ (z : Record). z.events.items) (sym e) ∙ sym (ap (λ (x : Part). x.events) (nth_of rs t r lt e))

pub path_read : (rs : List Record) (t : ℕ) (r : Record) (p : List ℕ) → t < length rs → r ≡ get_or rs t r → p ≡ (get_or rs t r).path → p ≡ (part_nth (parts_in rs) t).path
path_read rs t r p lt e same = same ∙ ap (λ (z : Record). z.path) (sym e) ∙ sym (ap (λ (x : Part). x.path) (nth_of rs t r lt e))

pub event_read : (es fs : List Event) (n : ℕ) (e f : Event) → es ≡ fs → n < length es → e ≡ get_or es n e → e ≡ f → slice_get fs n ≡ Some f
event_read es fs n e f same lt is more =
    subst (λ (l : List Event). slice_get l n ≡ Some f) same (slice_get-get_or es n e lt ∙ ap (λ (x : Event). Some x) (sym is ∙ more))

pub nth_at : (xs : List Part) (s : ℕ) (p : List ℕ) (x : Part) → AreApart xs → s < length xs → (part_nth xs s).path ≡ p → part_at xs p ≡ Some x → part_nth xs s ≡ x
nth_at xs s p x apart lt is there = one_part (part_here xs s apart lt) (ap (part_at xs) is ∙ there)

-- the end of the thread at a path
pub end_number : (xs : List Part) (s : ℕ) (p : List ℕ) (x : Part) → AreFinished xs → AreApart xs → s < length xs → (part_nth xs s).path ≡ p → part_at xs p ≡ Some x
    → IsNumber xs (end_of x) (first_in xs s + (length (part_nth xs s).events - 1))
end_number xs s p x finished apart lt is there =
    subst (λ (y : Part). IsNumber xs (end_of y) (first_in xs s + (length (part_nth xs s).events - 1))) (nth_at xs s p x apart lt is there)
    (number_at xs s (length (part_nth xs s).events - 1) lt (omega (arith, has_events xs finished apart s lt)))

-- ---- the graph

module _ (es : List Entry) (order : InPathOrder es) (finished : AreFinished (parts_of es)) (parents : List (List ℕ)) (long : length parents ≡ event_total (parts_of es)) (right : AreRight (parts_of es) parents) where
  thread_is : (t : ℕ) → t < length (map thread_of (parts_of es)) → t < length (parts_of es)
  thread_is t lt = omega (arith, lt, length-map (parts_of es) thread_of)

  vertices_are : (t : ℕ) → t < length (parts_of es) → (thread_at (record { threads = map thread_of (parts_of es); parents = parents }) t).vertices ≡ length (part_nth (parts_of es) t).events
  vertices_are t lt = ap (λ x. x.vertices) (thread_nth (parts_of es) t lt)

  ends_small : (u v : ℕ) → Contains (get_or parents v []) u → u < length parents
  ends_small u v c =
      elim (cases_lt v (length parents)) [
        | inl early ↦ let r = (right v early).only u c in omega (arith, number_small (parts_of es) r.0 u r.1, long)
        | inr late ↦ absurd (no_member u (subst (λ (l : List ℕ). Contains l u) (get_or_past parents v [] late) c))
      ]

  all_rise : (v : ℕ) → IsStrictlyIncreasing (get_or parents v [])
  all_rise v =
      elim (cases_lt v (length parents)) [
        | inl early ↦ (right v early).rising
        | inr late ↦ subst IsStrictlyIncreasing (sym (get_or_past parents v [] late)) (λ k lt. let z : k + 1 < 0 = lt in absurd (omega (arith, z)))
      ]

  continues : (t k : ℕ) → t < length (parts_of es) → k + 1 < length (part_nth (parts_of es) t).events → Contains (get_or parents (first_in (parts_of es) t + (k + 1)) []) (first_in (parts_of es) t + k)
  continues t k lt k_lt =
      let xs : List Part = parts_of es in
      let v : ℕ = first_in xs t + (k + 1) in
      let v_lt : v < length parents = omega (arith, k_lt, events_few xs t lt, long) in
      let named : name_in (map thread_of xs) v ≡ vertex_at xs t (k + 1) = name_at xs t (k + 1) v lt k_lt refl in
      let here : AreParents xs (vertex_at xs t (k + 1)) (get_or parents v []) = subst (λ (w : Vertex). AreParents xs w (get_or parents v [])) named (right v v_lt) in
      let there = part_here xs t (apart_of es order) lt in
      here.has (vertex_at xs t k) (first_in xs t + k) (number_at xs t k lt (omega (arith, k_lt))) (inl ((part_nth xs t, there, k_lt), refl, refl))

  pub made_graph : IsGraph (record { threads = map thread_of (parts_of es); parents = parents })
  made_graph =
      record {
        covers = totals_same (parts_of es) ∙ sym long;
        small = omega (arith, long, finished.few);
        filled = λ t lt. omega (arith, has_events (parts_of es) finished (apart_of es order) t (thread_is t lt), vertices_are t (thread_is t lt));
        in_order = threads_in_order es order;
        ends = ends_small;
        rising = all_rise;
        goes_on = λ t k lt k_lt.
            let below : k + 1 < length (part_nth (parts_of es) t).events = omega (arith, k_lt, vertices_are t (thread_is t lt)) in
            let c = continues t k (thread_is t lt) below in
            let e = firsts_same (parts_of es) t in
            let first : first_in (parts_of es) t + k ≡ first_vertex (record { threads = map thread_of (parts_of es); parents = parents }) t + k = omega (arith, e) in
            let next : first_in (parts_of es) t + (k + 1) ≡ first_vertex (record { threads = map thread_of (parts_of es); parents = parents }) t + k + 1 = omega (arith, e) in
            subst (λ n. Contains (get_or parents n []) (first_vertex (record { threads = map thread_of (parts_of es); parents = parents }) t + k)) next (subst (Contains (get_or parents (first_in (parts_of es) t + (k + 1)) [])) first c);
      }

  pub made_of : IsGraphOf (parts_of es) (record { threads = map thread_of (parts_of es); parents = parents })
  made_of =
      record {
        threads = refl;
        edges = λ u v u_lt v_lt. (named u v v_lt, numbers u v u_lt v_lt);
        kept = made_graph;
      }
    where
      named : (u v : ℕ) → v < length parents → Contains (get_or parents v []) u → IsEdge (parts_of es) (name_in (map thread_of (parts_of es)) u) (name_in (map thread_of (parts_of es)) v)
      named u v v_lt c =
          let r = (right v v_lt).only u c in
          subst (λ (w : Vertex). IsEdge (parts_of es) w (name_in (map thread_of (parts_of es)) v)) (sym (number_named (parts_of es) r.0 u r.1)) r.2

      numbers : (u v : ℕ) → u < length parents → v < length parents → IsEdge (parts_of es) (name_in (map thread_of (parts_of es)) u) (name_in (map thread_of (parts_of es)) v) → Contains (get_or parents v []) u
      numbers u v u_lt v_lt e = (right v v_lt).has (name_in (map thread_of (parts_of es)) u) u (numbered (parts_of es) u (omega (arith, u_lt, long))) e

-- the same for what is known of the list that the records gave
pub made_of_list : (l rs : List Record) (ts : List Thread) (ps : List (Vec ℕ Global)) → l ≡ rs → InPathOrder (map read_record l) → AreFinished (parts_in rs) → ts ≡ map thread_of (parts_in l) → length ps ≡ event_total (parts_in l) → AreRight (parts_in l) (lists ps)
    → IsGraphOf (parts_in rs) (graph_of ts ps)
made_of_list l rs ts ps same order finished e long right =
    let there : AreFinished (parts_in l) = subst (λ (z : List Record). AreFinished (parts_in z)) (sym same) finished in
    let made = made_of (map read_record l) order there (lists ps) (lists_length ps ∙ long) right in
    subst (λ (z : List Record). IsGraphOf (parts_in z) (graph_of ts ps)) same (subst (λ (z : List Thread). IsGraphOf (parts_in l) (graph_of z ps)) (sym e) made)

pub apart_of_list : (l rs : List Record) → l ≡ rs → InPathOrder (map read_record l) → AreApart (parts_in rs)
apart_of_list l rs same order = subst (λ (z : List Record). AreApart (parts_in z)) same (apart_in l order)

-- the table of the first vertices
pub firsts_known : (xs : List Part) (ts : List Thread) (fs : List ℕ) → ts ≡ map thread_of xs → length fs ≡ length ts → ((t : ℕ) → t < length ts → get_or fs t 0 ≡ sum_by (λ (x : Thread). x.vertices) (take t ts)) → AreFirstsOf xs fs
firsts_known xs ts fs e long are =
    let same : length ts ≡ length xs = ap (λ (l : List Thread). length l) e ∙ length-map xs thread_of in
    record {
      covers = omega (arith, long, same);
      are = λ t lt. are t (omega (arith, lt, same)) ∙ ap (λ (l : List Thread). sum_by (λ (x : Thread). x.vertices) (take t l)) e ∙ firsts_same xs t;
    }
