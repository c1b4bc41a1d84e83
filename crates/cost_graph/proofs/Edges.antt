-- Whether there is an edge between two vertices of threads, and the numbers of the vertices with an edge to one.
use Rattle.std.proofs.Common.{◌≡◌, ℕ, zero, suc, ◌+◌, ◌<◌, ◌≤◌, ◌⊎◌, Bool, true, false, List, [], ◌∷◌, length, take, get_or, map, refl, sym, ap, ◌∙◌, subst, inl, inr, arith}
use Rattle.std.specs.Prelude.{Option, Some, None, slice_get}
use Rattle.std.specs.List.{Contains}
use Rattle.std.specs.List.Sorted.{IsStrictlyIncreasing}
use Rattle.std.proofs.lemmas.Bool.{cases_lt}
use Rattle.std.proofs.lemmas.Bool.Decides.{eqb_tells}
use Rattle.priml_syntax.specs.declared.event.Event.{Event}
use Rattle.priml_syntax.specs.declared.event.Event.TheVariants.{Spawn, Join}
use Rattle.priml_syntax.specs.Events.{spawns}
use Rattle.priml_syntax.specs.Paths.{same_path, child_path}
use Rattle.priml_syntax.proofs.Orders.{same_path_is, same_path_refl}
use Rattle.cost_graph.specs.Graph.{Vertex, name_in}
use Rattle.cost_graph.specs.Records.{Part, part_at, event_total, thread_of, IsVertex, Continues, Spawns, Joins, IsEdge}
use Rattle.cost_graph.specs.Inside.Tables.{AreParents}
use Rattle.cost_graph.proofs.Members.{no_member, member_cons, member_head, member_tail}
use Rattle.cost_graph.proofs.Parts.{one_part, number_small, number_named, numbered}

-- ---- whether there is an edge

both_or_not : {P Q : Type 0} → P ⊎ (P → ⊥) → Q ⊎ (Q → ⊥) → (P × Q) ⊎ (P × Q → ⊥)
both_or_not (inl p) (inl q) = inl (p, q)
both_or_not (inl p) (inr n) = inr (λ h. n h.1)
both_or_not (inr n) q = inr (λ h. n h.0)

number_or_not : (a b : ℕ) → (a ≡ b) ⊎ (a ≡ b → ⊥)
number_or_not a b = elim (eqb_tells a b) [ inl e ↦ inl e.1 | inr e ↦ inr e.1 ]

path_or_not : (p q : List ℕ) → (p ≡ q) ⊎ (p ≡ q → ⊥)
path_or_not p q = go (same_path p q) refl where
  go : (b : Bool) → same_path p q ≡ b → (p ≡ q) ⊎ (p ≡ q → ⊥)
  go true e = inl (same_path_is p q e)
  go false e = inr (λ s. let t : same_path p q ≡ true = subst (λ r. same_path p r ≡ true) s (same_path_refl p) in let z : true ≡ false = sym t ∙ e in cc)

some_or_none : {A : Type 0} (o : Option A) → ((x : A) × (o ≡ Some x)) ⊎ ((x : A) → o ≡ Some x → ⊥)
some_or_none None = inr (λ x e. cc)
some_or_none (Some x) = inl (x, refl)

spawn_or_not : (o : Option Event) → (o ≡ Some Spawn) ⊎ (o ≡ Some Spawn → ⊥)
spawn_or_not (Some Spawn) = inl refl
spawn_or_not o = inr (λ e. cc)

join_or_not : (o : Option Event) (p : List ℕ) → (o ≡ Some (Join p)) ⊎ (o ≡ Some (Join p) → ⊥)
join_or_not (Some (Join q)) p = elim (path_or_not q p) [ inl e ↦ inl (ap (λ r. Some (Join r)) e) | inr n ↦ inr (λ e. n (let s : q ≡ p = cc in s)) ]
join_or_not o p = inr (λ e. cc)

module _ (xs : List Part) where
  -- the thread of a path has a property that can be told
  part_with : (p : List ℕ) (Q : Part → Type 0) → ((x : Part) → Q x ⊎ (Q x → ⊥)) → ((x : Part) × (part_at xs p ≡ Some x) × Q x) ⊎ (((x : Part) × (part_at xs p ≡ Some x) × Q x) → ⊥)
  part_with p Q each = go (some_or_none (part_at xs p)) where
    go : ((x : Part) × (part_at xs p ≡ Some x)) ⊎ ((x : Part) → part_at xs p ≡ Some x → ⊥) → ((x : Part) × (part_at xs p ≡ Some x) × Q x) ⊎ (((x : Part) × (part_at xs p ≡ Some x) × Q x) → ⊥)
    go (inr none) = inr (λ h. none h.0 h.1)
    go (inl x) = elim (each x.0) [ inl q ↦ inl (x.0, x.1, q) | inr n ↦ inr (λ h. n (subst Q (one_part h.1 x.1) h.2)) ]

  vertex_or_not : (v : Vertex) → IsVertex xs v ⊎ (IsVertex xs v → ⊥)
  vertex_or_not v = part_with v.path (λ x. v.number < length x.events) (λ x. elim (cases_lt v.number (length x.events)) [ inl lt ↦ inl lt | inr past ↦ inr (λ lt. omega (arith, past, lt)) ])

  continues_or_not : (u v : Vertex) → Continues xs u v ⊎ (Continues xs u v → ⊥)
  continues_or_not u v =
      elim (both_or_not (vertex_or_not v) (both_or_not (path_or_not u.path v.path) (number_or_not v.number (u.number + 1)))) [
        | inl h ↦ inl (h.0, h.1.0, h.1.1)
        | inr n ↦ inr (λ h. n (h.0, (h.1, h.2)))
      ]

  abbrev SpawnsAt : Vertex → Vertex → Part → Type 0
  SpawnsAt u v x = (slice_get x.events u.number ≡ Some Spawn) × (IsVertex xs v × ((v.path ≡ child_path u.path (spawns (take u.number x.events))) × (v.number ≡ 0)))

  spawns_or_not : (u v : Vertex) → Spawns xs u v ⊎ (Spawns xs u v → ⊥)
  spawns_or_not u v =
      elim (part_with u.path (SpawnsAt u v) (λ x. both_or_not (spawn_or_not (slice_get x.events u.number)) (both_or_not (vertex_or_not v) (both_or_not (path_or_not v.path (child_path u.path (spawns (take u.number x.events)))) (number_or_not v.number 0))))) [
        | inl h ↦ inl (h.0, h.1, h.2.0, h.2.1.0, h.2.1.1.0, h.2.1.1.1)
        | inr n ↦ inr (λ h. n (h.0, h.1, (h.2, (h.3, (h.4, h.5)))))
      ]

  abbrev JoinedAt : Vertex → Vertex → Part → Type 0
  JoinedAt u v x = (slice_get x.events v.number ≡ Some (Join u.path)) × ((y : Part) × (part_at xs u.path ≡ Some y) × (length y.events ≡ u.number + 1))

  joins_or_not : (u v : Vertex) → Joins xs u v ⊎ (Joins xs u v → ⊥)
  joins_or_not u v =
      elim (part_with v.path (JoinedAt u v) (λ x. both_or_not (join_or_not (slice_get x.events v.number) u.path) (part_with u.path (λ y. length y.events ≡ u.number + 1) (λ y. number_or_not (length y.events) (u.number + 1))))) [
        | inl h ↦ inl (h.0, h.2.1.0, h.1, h.2.0, h.2.1.1, h.2.1.2)
        | inr n ↦ inr (λ h. n (h.0, h.2, (h.3, (h.1, h.4, h.5))))
      ]

  pub edge_or_not : (u v : Vertex) → IsEdge xs u v ⊎ (IsEdge xs u v → ⊥)
  edge_or_not u v = go (continues_or_not u v) (spawns_or_not u v) (joins_or_not u v) where
    go : Continues xs u v ⊎ (Continues xs u v → ⊥) → Spawns xs u v ⊎ (Spawns xs u v → ⊥) → Joins xs u v ⊎ (Joins xs u v → ⊥) → IsEdge xs u v ⊎ (IsEdge xs u v → ⊥)
    go (inl c) s j = inl (inl c)
    go (inr m) (inl s) j = inl (inr (inl s))
    go (inr m) (inr n) (inl j) = inl (inr (inr j))
    go (inr m) (inr n) (inr l) = inr (λ e. elim e [ inl c ↦ m c | inr (inl s) ↦ n s | inr (inr j) ↦ l j ])

-- ---- the numbers that have a property

rises_cons : (x : ℕ) (xs : List ℕ) → ((u : ℕ) → Contains xs u → x < u) → IsStrictlyIncreasing xs → IsStrictlyIncreasing (x ∷ xs)
rises_cons x [] low r k lt = absurd (omega (arith, lt))
rises_cons x (y ∷ ys) low r zero lt = low y (member_head y ys)
rises_cons x (y ∷ ys) low r (suc k) lt =
    let e : suc (k + 1) ≡ suc k + 1 = omega arith in
    subst (λ n. get_or (y ∷ ys) k 0 < get_or (x ∷ y ∷ ys) n 0) e (r k (omega (arith, lt)))

-- the numbers with the property, of so many from the first on
record Chosen (P : ℕ → Type 0) (from count : ℕ) : Type 0 where
  list : List ℕ
  rising : IsStrictlyIncreasing list
  all : (u : ℕ) → Contains list u → (from ≤ u) × (u < from + count) × P u
  has : (u : ℕ) → from ≤ u → u < from + count → P u → Contains list u

module _ (P : ℕ → Type 0) (each : (u : ℕ) → P u ⊎ (P u → ⊥)) where
  chosen_next : (from count : ℕ) → P from ⊎ (P from → ⊥) → Chosen P (suc from) count → Chosen P from (suc count)
  chosen_next from count (inr lacks) rest = record {
    list = rest.list;
    rising = rest.rising;
    all = λ u c. let r = rest.all u c in (omega (arith, r.0), omega (arith, r.1), r.2);
    has = λ u low high p. elim (cases_lt from u) [
      | inl later ↦ rest.has u (omega (arith, later)) (omega (arith, high)) p
      | inr here ↦ (let same : u ≡ from = omega (arith, here, low) in absurd (lacks (subst P same p)))
    ];
  }
  chosen_next from count (inl holds) rest = record {
    list = from ∷ rest.list;
    rising = rises_cons from rest.list (λ u c. let r = rest.all u c in omega (arith, r.0)) rest.rising;
    all = λ u c. elim (member_cons from rest.list u c) [
      | inl e ↦ (omega (arith, e), omega (arith, e), subst P e holds)
      | inr k ↦ (let r = rest.all u k in (omega (arith, r.0), omega (arith, r.1), r.2))
    ];
    has = λ u low high p. elim (cases_lt from u) [
      | inl later ↦ member_tail from rest.list u (rest.has u (omega (arith, later)) (omega (arith, high)) p)
      | inr here ↦ (let same : from ≡ u = omega (arith, here, low) in subst (Contains (from ∷ rest.list)) same (member_head from rest.list))
    ];
  }

  chosen : (count from : ℕ) → Chosen P from count
  chosen zero from = record { list = []; rising = λ k lt. absurd (omega (arith, lt)); all = λ u c. absurd (no_member u c); has = λ u low high p. absurd (omega (arith, low, high)) }
  chosen (suc count) from = chosen_next from count (each from) (chosen count (suc from))

-- the numbers of the vertices with an edge to one
pub parents_known : (xs : List Part) (v : Vertex) → (numbers : List ℕ) × AreParents xs v numbers
parents_known xs v =
    let name = λ (u : ℕ). name_in (map thread_of xs) u in
    let c = chosen (λ u. IsEdge xs (name_in (map thread_of xs) u) v) (λ u. edge_or_not xs (name_in (map thread_of xs) u) v) (event_total xs) 0 in (
      c.list,
      record {
        rising = c.rising;
        has = λ u a n e. let small = number_small xs u a n in c.has a (omega arith) (omega (arith, small)) (subst (λ (w : Vertex). IsEdge xs w v) (sym (number_named xs u a n)) e);
        only = λ a k. let r = c.all a k in (name_in (map thread_of xs) a, numbered xs a (omega (arith, r.1)), r.2);
      },
    )
