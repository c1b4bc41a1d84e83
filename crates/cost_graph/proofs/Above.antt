-- Proper ancestors and descendants, by one pass over a topological order.
use Rattle.std.proofs.Common.{◌≡◌, ◌≢◌, ℕ, suc, ◌+◌, ◌-◌, ◌<◌, ◌≤◌, Bool, true, false, List, [], ◌∷◌, length, take, drop, get_or, set, replicate, refl, sym, ◌∙◌, subst, inl, inr, arith, ◌⊎◌, ◌↔◌}
use Rattle.std.specs.List.{All, Contains, IsDistinct, range_with_len}
use Rattle.std.specs.Prelude.{nat_eq}
use Rattle.std.proofs.lemmas.Bool.{cases_eq}
use Rattle.std.proofs.lemmas.List.{get_or_default, get_or-set_same, get_or-set_other, length-set, length-replicate, take-append-drop, get_or-take, length-take, take_more}
use Rattle.std.proofs.lemmas.List.Elements.{All-filter, Contains-append_cases, Contains-append_left, Contains-get_or}
use Rattle.std.proofs.Math.Seq.{drop-cons, take-add, take-length}
use Rattle.std.proofs.lemmas.Map.Made.{is_member-Decides}
use Rattle.std.proofs.lemmas.Map.Steps.{length-le_from_distinct_below}
use Rattle.cost_graph.specs.Walks.{Leads, Reaches, ProperlyReaches, HasNoCycle}
use Rattle.cost_graph.specs.Graph.{CostGraph, vertex_total, parents_at, children_at, is_edge, Edge, IsAcyclic}
use Rattle.cost_graph.proofs.Walks.{last_edge_of, reaches_on}
use Rattle.cost_graph.proofs.Visits.{numbers_below}
use Rattle.cost_graph.specs.Order.{IsTopological, IsSortedOrStuck, AreMarked}
use Rattle.cost_graph.specs.Inside.Order.{HasWay}
use Rattle.cost_graph.proofs.Members.{decides_eq, no_member, member_cons, member_head, distinct_right, distinct_apart, in_drop}
use Rattle.cost_graph.proofs.ReadyNext.{child_of, parent_of_child, edge_in}

pub proper_first : (E : ℕ → ℕ → Type 0) (v t : ℕ) → ProperlyReaches E v t → (c : ℕ) × E v c × ((c ≡ t) ⊎ ProperlyReaches E c t)
proper_first E v t (([], e), ne) = absurd (ne e)
proper_first E v t ((c ∷ cs, l), ne) = elim (cases_eq c t) [ inl e ↦ (c, l.0, inl e) | inr other ↦ (c, l.0, inr ((cs, l.1), other)) ]

pub first_proper : (E : ℕ → ℕ → Type 0) → HasNoCycle E → (v t c : ℕ) → E v c → (c ≡ t) ⊎ ProperlyReaches E c t → ProperlyReaches E v t
first_proper E none v t c e (inl same) = ((c ∷ [], (e, same)), λ back. none v c [] (e, same ∙ sym back))
first_proper E none v t c e (inr p) = ((c ∷ p.0.0, (e, p.0.1)), λ back. none v c p.0.0 (subst (λ x. E x c × Leads E c p.0.0 x) refl (e, subst (Leads E c p.0.0) (sym back) p.0.1)))

-- the marks of the vertices from a place of the order on are right
pub record IsAbove (g : CostGraph) (order : List ℕ) (target : ℕ) (marks : List Bool) (place : ℕ) : Type 0 where
  pub size : length marks ≡ vertex_total g
  pub low : place ≤ length order
  pub right : (v : ℕ) → Contains (drop place order) v → (get_or marks v false ≡ true) ↔ ProperlyReaches (Edge g) v target

module _ (g : CostGraph) (order : List ℕ) (target : ℕ) (marks : List Bool) (place : ℕ) (acyclic : HasNoCycle (Edge g)) (topo : IsTopological g order) (now : IsAbove g order target marks (suc place)) where
  v : ℕ
  v = get_or order place 0

  lt : place < length order
  lt = omega (arith, now.low)

  here : drop place order ≡ get_or order place 0 ∷ drop (suc place) order
  here = drop-cons order place 0 lt

  -- a child stands later
  child_later : (c : ℕ) → Edge g (get_or order place 0) c → Contains (drop (suc place) order) c
  child_later c e =
      let in_order = (topo.all c).0 (edge_in g (get_or order place 0) c e) in
      elim (Contains-append_cases (take place order) (drop place order) c (subst (λ l. Contains l c) (sym (take-append-drop place order)) in_order)) [
        | inr late ↦ elim (member_cons (get_or order place 0) (drop (suc place) order) c (subst (λ l. Contains l c) here late)) [
          | inl same ↦ absurd (acyclic (get_or order place 0) c [] (e, sym same))
          | inr later ↦ later
        ]
        | inl early ↦ absurd (earlier c e early)
      ]
    where
      earlier : (d : ℕ) → Edge g (get_or order place 0) d → Contains (take place order) d → ⊥
      earlier d e' k =
          let j = k.0 in
          let j_lt : j < place = omega (arith, k.1, length-take place order) in
          let j_in : j < length order = omega (arith, j_lt, lt) in
          let at : get_or order j 0 ≡ d = get_or_default order j 0 d j_in ∙ sym (get_or-take place order j d j_lt) ∙ k.2 in
          let before = topo.after j (get_or order place 0) j_in (subst (Edge g (get_or order place 0)) (sym at) e') in
          let m : ℕ = place - j in
          let sum : j + m ≡ place = omega (arith, j_lt) in
          let wide = subst (λ n. Contains (take n order) (get_or order place 0)) sum (subst (λ l. Contains l (get_or order place 0)) (sym (take-add j m order)) (Contains-append_left (take j order) (take m (drop j order)) (get_or order place 0) before)) in
          let whole = subst (IsDistinct nat_eq) (sym (take-append-drop place order)) topo.once in
          distinct_apart (take place order) (drop place order) (get_or order place 0) whole wide (subst (λ l. Contains l (get_or order place 0)) (sym here) (member_head (get_or order place 0) (drop (suc place) order)))

  way : HasWay marks (children_at g (get_or order place 0)) target ↔ ProperlyReaches (Edge g) (get_or order place 0) target
  way = (
    λ w.
        let e = parent_of_child g (get_or order place 0) w.0 w.1 in
        first_proper (Edge g) acyclic (get_or order place 0) target w.0 e (elim w.2 [ inl s ↦ inl s | inr m ↦ inr ((now.right w.0 (child_later w.0 e)).0 m) ]),
    λ p.
        let f = proper_first (Edge g) (get_or order place 0) target p in
        (f.0, child_of g (get_or order place 0) f.0 f.1, elim f.2 [ inl s ↦ inl s | inr q ↦ inr ((now.right f.0 (child_later f.0 f.1)).1 q) ]),
  )

-- the mark of one vertex more
pub above_on : (g : CostGraph) (order : List ℕ) (target : ℕ) (marks : List Bool) (place : ℕ) (b : Bool) → HasNoCycle (Edge g) → IsTopological g order → IsAbove g order target marks (suc place)
    → (b ≡ true) ↔ HasWay marks (children_at g (get_or order place 0)) target → IsAbove g order target (set marks (get_or order place 0) b) place
above_on g order target marks place b acyclic topo now found = record {
  size = length-set marks (get_or order place 0) b ∙ now.size;
  low = omega (arith, now.low);
  right = λ w c. elim (member_cons (get_or order place 0) (drop (suc place) order) w (subst (λ l. Contains l w) here' c)) [
    | inl e ↦ subst (λ x. (get_or (set marks (get_or order place 0) b) x false ≡ true) ↔ ProperlyReaches (Edge g) x target) e first
    | inr late ↦
        let other : w ≢ get_or order place 0 = λ e. once' (subst (Contains (drop (suc place) order)) e late) in
        subst (λ x. (x ≡ true) ↔ ProperlyReaches (Edge g) w target) (sym (get_or-set_other marks (get_or order place 0) w b false other)) (now.right w late)
  ];
}
  where
    lt' : place < length order
    lt' = omega (arith, now.low)

    here' : drop place order ≡ get_or order place 0 ∷ drop (suc place) order
    here' = drop-cons order place 0 lt'

    once' : Contains (drop (suc place) order) (get_or order place 0) → ⊥
    once' c =
        let tail = distinct_right (take place order) (drop place order) (subst (IsDistinct nat_eq) (sym (take-append-drop place order)) topo.once) in
        distinct_apart (get_or order place 0 ∷ []) (drop (suc place) order) (get_or order place 0) (subst (IsDistinct nat_eq) here' tail) (member_head (get_or order place 0) []) c

    inside : get_or order place 0 < length marks
    inside = let in_all = (topo.all (get_or order place 0)).1 (in_drop order place (get_or order place 0) (subst (λ l. Contains l (get_or order place 0)) (sym here') (member_head (get_or order place 0) (drop (suc place) order)))) in omega (arith, in_all, now.size)

    first : (get_or (set marks (get_or order place 0) b) (get_or order place 0) false ≡ true) ↔ ProperlyReaches (Edge g) (get_or order place 0) target
    first =
        let w = way g order target marks place acyclic topo now in
        let same = get_or-set_same marks (get_or order place 0) b false inside in
        (λ m. w.0 (found.0 (sym same ∙ m)), λ p. same ∙ found.1 (w.1 p))

pub above_start : (g : CostGraph) (order : List ℕ) (target n : ℕ) → n ≡ vertex_total g → IsAbove g order target (replicate n false) (length order)
above_start g order target n e = record {
  size = length-replicate n false ∙ e;
  low = omega arith;
  right = λ v c. absurd (no_member v (subst (λ l. Contains l v) (drop_all order) c));
}
  where
    drop_all : (xs : List ℕ) → drop (length xs) xs ≡ []
    drop_all [] = refl
    drop_all (x ∷ xs) = drop_all xs

pub above_end : (g : CostGraph) (order : List ℕ) (target : ℕ) (marks : List Bool) → IsTopological g order → IsAbove g order target marks 0 → AreMarked g (λ v. ProperlyReaches (Edge g) v target) marks
above_end g order target marks topo now = record { covers = now.size; are = λ v lt. now.right v ((topo.all v).0 lt) }

-- ---- descendants

-- a vertex that is properly reached has a parent that is the source, or is properly reached
pub proper_last : (E : ℕ → ℕ → Type 0) (s v : ℕ) → ProperlyReaches E s v → (p : ℕ) × E p v × ((p ≡ s) ⊎ ProperlyReaches E s p)
proper_last E s v h =
    let last = last_edge_of E s v h in
    elim (cases_eq last.0 s) [ inl e ↦ (last.0, last.2, inl e) | inr other ↦ (last.0, last.2, inr (last.1, λ e. other (sym e))) ]

pub last_proper : (E : ℕ → ℕ → Type 0) → HasNoCycle E → (s v p : ℕ) → E p v → (p ≡ s) ⊎ ProperlyReaches E s p → ProperlyReaches E s v
last_proper E none s v p e (inl same) = ((v ∷ [], (subst (λ x. E x v) same e, refl)), λ back. none s v [] (subst (λ x. E x v) same e, sym back))
last_proper E none s v p e (inr h) = (walk, λ back. turns walk.0 walk.1 back)
  where
    walk : Reaches E s v
    walk = reaches_on E s p v h.0 (v ∷ [], (e, refl))

    turns : (ws : List ℕ) → Leads E s ws v → s ≡ v → ⊥
    turns [] l back = none p v h.0.0 (e, subst (λ x. Leads E x h.0.0 p) back h.0.1)
    turns (w ∷ ws) l back = none s w ws (l.0, subst (Leads E w ws) (sym back) l.1)

-- the marks of the vertices before a place of the order are right
pub record IsBeneath (g : CostGraph) (order : List ℕ) (source : ℕ) (marks : List Bool) (place : ℕ) : Type 0 where
  pub size : length marks ≡ vertex_total g
  pub right : (v : ℕ) → Contains (take place order) v → (get_or marks v false ≡ true) ↔ ProperlyReaches (Edge g) source v

pub beneath_on : (g : CostGraph) (order : List ℕ) (source : ℕ) (marks : List Bool) (place : ℕ) (b : Bool) → place < length order → HasNoCycle (Edge g) → IsTopological g order → IsBeneath g order source marks place
    → (b ≡ true) ↔ HasWay marks (parents_at g (get_or order place 0)) source → IsBeneath g order source (set marks (get_or order place 0) b) (place + 1)
beneath_on g order source marks place b lt' acyclic topo now found = record {
  size = length-set marks (get_or order place 0) b ∙ now.size;
  right = λ w c. elim (Contains-append_cases (take place order) (get_or order place 0 ∷ []) w (subst (λ l. Contains l w) (take_more order place 0 lt') c)) [
    | inl early ↦
        let other : w ≢ get_or order place 0 = λ e. once' (subst (Contains (take place order)) e early) in
        subst (λ x. (x ≡ true) ↔ ProperlyReaches (Edge g) source w) (sym (get_or-set_other marks (get_or order place 0) w b false other)) (now.right w early)
    | inr late ↦ elim (member_cons (get_or order place 0) [] w late) [
      | inl e ↦ subst (λ x. (get_or (set marks (get_or order place 0) b) x false ≡ true) ↔ ProperlyReaches (Edge g) source x) e last
      | inr z ↦ absurd (no_member w z)
    ]
  ];
}
  where
    once' : Contains (take place order) (get_or order place 0) → ⊥
    once' c =
        let whole = subst (IsDistinct nat_eq) (sym (take-append-drop place order)) topo.once in
        distinct_apart (take place order) (drop place order) (get_or order place 0) whole c
        (subst (λ l. Contains l (get_or order place 0)) (sym (drop-cons order place 0 lt')) (member_head (get_or order place 0) (drop (suc place) order)))

    inside : get_or order place 0 < length marks
    inside = let in_all = (topo.all (get_or order place 0)).1 (Contains-get_or order place 0 lt') in omega (arith, in_all, now.size)

    last : (get_or (set marks (get_or order place 0) b) (get_or order place 0) false ≡ true) ↔ ProperlyReaches (Edge g) source (get_or order place 0)
    last =
        let same = get_or-set_same marks (get_or order place 0) b false inside in (
          λ m.
              let w = found.0 (sym same ∙ m) in
              last_proper (Edge g) acyclic source (get_or order place 0) w.0 w.1 (elim w.2 [ inl s ↦ inl s | inr k ↦ inr ((now.right w.0 (topo.after place w.0 lt' w.1)).0 k) ]),
          λ p.
              let f = proper_last (Edge g) source (get_or order place 0) p in
              same ∙ found.1 (f.0, f.1, elim f.2 [ inl s ↦ inl s | inr k ↦ inr ((now.right f.0 (topo.after place f.0 lt' f.1)).1 k) ]),
        )

pub beneath_start : (g : CostGraph) (order : List ℕ) (source n : ℕ) → n ≡ vertex_total g → IsBeneath g order source (replicate n false) 0
beneath_start g order source n e = record { size = length-replicate n false ∙ e; right = λ v c. absurd (no_member v c) }

pub beneath_end : (g : CostGraph) (order : List ℕ) (source : ℕ) (marks : List Bool) → IsTopological g order → IsBeneath g order source marks (length order) → AreMarked g (ProperlyReaches (Edge g) source) marks
beneath_end g order source marks topo now = record { covers = now.size; are = λ v lt. now.right v (subst (λ l. Contains l v) (sym (take-length order)) ((topo.all v).0 lt)) }

-- the vertices of the order, and their parents and children, have marks
pub order_below : (g : CostGraph) (order : List ℕ) (i : ℕ) → IsTopological g order → i < length order → get_or order i 0 < vertex_total g
order_below g order i topo lt = (topo.all (get_or order i 0)).1 (Contains-get_or order i 0 lt)

pub all_children_below : (g : CostGraph) (u : ℕ) → All (λ v. v < vertex_total g) (children_at g u)
all_children_below g u = All-filter (is_edge g u) (λ v. v < vertex_total g) (range_with_len 0 (vertex_total g)) (numbers_below (vertex_total g))

-- an order has no more than all vertices
pub order_short : (g : CostGraph) (order : List ℕ) → IsTopological g order → length order ≤ vertex_total g
order_short g order topo = length-le_from_distinct_below order (vertex_total g) topo.once (λ q e. (topo.all q).1 ((is_member-Decides decides_eq order q).0 e))

-- in a graph without cycles the vertices have an order
pub sorted_where_acyclic : (g : CostGraph) (order : List ℕ) → IsAcyclic g → IsSortedOrStuck g order → IsTopological g order
sorted_where_acyclic g order acyclic h = elim h [ inl t ↦ t.0 | inr c ↦ absurd (acyclic c.0.0 c.0.1 c.0.2 c.0.3) ]
