-- The ready vertices after a step are those that were left out and those that the step frees.
use Rattle.std.proofs.Common.{◌≡◌, ℕ, ◌+◌, ◌<◌, ◌≤◌, Bool, true, false, List, [], ◌∷◌, ◌++◌, length, get_or, set, refl, sym, ap, ◌∙◌, subst, inl, inr, arith, ◌⊎◌, ◌↔◌}
use Rattle.std.specs.List.{Contains, filter, range_with_len}
use Rattle.std.proofs.lemmas.Map.Made.{is_member-Decides}
use Rattle.std.proofs.lemmas.Bool.{cases_eq, cases_lt}
use Rattle.std.proofs.lemmas.List.{get_or-set_same, get_or-set_other, length-set, get_or_past}
use Rattle.std.proofs.lemmas.List.Elements.{All-contains, All-from_get_or, Contains-get_or, Contains-append_left, Contains-append_right, Contains-append_cases}
use Rattle.std.proofs.lemmas.List.Sums.{AllPass-from_list_all, list_all-from_AllPass}
use Rattle.cost_graph.specs.Graph.{CostGraph, vertex_total, Edge, parents_at, children_at, is_edge}
use Rattle.cost_graph.specs.Marks.{is_marked, IsReady, BecomesReady, IsDone}
use Rattle.cost_graph.specs.Inside.Marks.{is_free, freed_by, marks_after}
use Rattle.cost_graph.proofs.Members.{decides_eq, member_or_not, no_member, member_cons, member_head, member_tail}
use Rattle.cost_graph.proofs.Ranges.{in_range, in_filter, from_filter, out_filter}

-- ---- marks

pub marked_set : (marks : List Bool) (v w : ℕ) → v < length marks → is_marked (set marks v true) w ≡ true → (v ≡ w) ⊎ (is_marked marks w ≡ true)
marked_set marks v w lt h =
    elim (cases_eq w v) [
      | inl same ↦ inl (sym same)
      | inr other ↦ inr (sym (get_or-set_other marks v w true false other) ∙ h)
    ]

pub set_marked : (marks : List Bool) (v w : ℕ) → v < length marks → (v ≡ w) ⊎ (is_marked marks w ≡ true) → is_marked (set marks v true) w ≡ true
set_marked marks v w lt h =
    elim (cases_eq w v) [
      | inl same ↦ ap (λ x. get_or (set marks v true) x false) same ∙ get_or-set_same marks v true false lt
      | inr other ↦ get_or-set_other marks v w true false other ∙ elim h [ inl e ↦ absurd (other (sym e)) | inr m ↦ m ]
    ]

pub after_marked : (vs : List ℕ) (marks : List Bool) (w : ℕ) → ((v : ℕ) → Contains vs v → v < length marks) → is_marked (marks_after marks vs) w ≡ true → is_marked marks w ≡ true ⊎ Contains vs w
after_marked [] marks w small h = inl h
after_marked (v ∷ vs) marks w small h =
    let lt = small v (member_head v vs) in
    let small' = λ (x : ℕ) (c : Contains vs x). subst (λ n. x < n) (sym (length-set marks v true)) (small x (member_tail v vs x c)) in
    elim (after_marked vs (set marks v true) w small' h) [
      | inr late ↦ inr (member_tail v vs w late)
      | inl m ↦ elim (marked_set marks v w lt m) [ inl e ↦ inr (subst (Contains (v ∷ vs)) e (member_head v vs)) | inr early ↦ inl early ]
    ]

pub marked_after : (vs : List ℕ) (marks : List Bool) (w : ℕ) → ((v : ℕ) → Contains vs v → v < length marks) → is_marked marks w ≡ true ⊎ Contains vs w → is_marked (marks_after marks vs) w ≡ true
marked_after [] marks w small h = elim h [ inl m ↦ m | inr c ↦ absurd (no_member w c) ]
marked_after (v ∷ vs) marks w small h =
    let lt = small v (member_head v vs) in
    let small' = λ (x : ℕ) (c : Contains vs x). subst (λ n. x < n) (sym (length-set marks v true)) (small x (member_tail v vs x c)) in
    marked_after vs (set marks v true) w small' (elim h [
      | inl m ↦ inl (set_marked marks v w lt (inr m))
      | inr c ↦ elim (member_cons v vs w c) [ inl e ↦ inl (set_marked marks v w lt (inl e)) | inr late ↦ inr late ]
    ])

-- ---- what is free

pub free_parent : (g : CostGraph) (marks : List Bool) (c u : ℕ) → is_free g marks c ≡ true → Edge g u c → is_marked marks u ≡ true
free_parent g marks c u f e = All-contains (λ x. is_marked marks x ≡ true) (parents_at g c) u (AllPass-from_list_all (is_marked marks) (parents_at g c) f) e

pub free_from : (g : CostGraph) (marks : List Bool) (c : ℕ) → ((u : ℕ) → Edge g u c → is_marked marks u ≡ true) → is_free g marks c ≡ true
free_from g marks c h = list_all-from_AllPass (is_marked marks) (parents_at g c) (All-from_get_or (λ x. is_marked marks x ≡ true) (parents_at g c) 0 (λ i lt. h (get_or (parents_at g c) i 0) (Contains-get_or (parents_at g c) i 0 lt)))

-- ---- children

-- a number with a parent is a vertex
pub edge_in : (g : CostGraph) (u c : ℕ) → Edge g u c → c < vertex_total g
edge_in g u c e = elim (cases_lt c (vertex_total g)) [ inl lt ↦ lt | inr ge ↦ absurd (no_member u (subst (λ l. Contains l u) (get_or_past g.parents c [] ge) e)) ]

pub child_of : (g : CostGraph) (u c : ℕ) → Edge g u c → Contains (children_at g u) c
child_of g u c e =
    let lt = edge_in g u c e in
    let low : 0 ≤ c = omega arith in
    let high : c < 0 + vertex_total g = omega (arith, lt) in
    in_filter (is_edge g u) (range_with_len 0 (vertex_total g)) c (in_range 0 (vertex_total g) c low high) ((is_member-Decides decides_eq (parents_at g c) u).1 e)

pub parent_of_child : (g : CostGraph) (u c : ℕ) → Contains (children_at g u) c → Edge g u c
parent_of_child g u c h = (is_member-Decides decides_eq (parents_at g c) u).0 (from_filter (is_edge g u) (range_with_len 0 (vertex_total g)) c h)

-- ---- what a step frees

pub record IsFreed (g : CostGraph) (marks : List Bool) (vs : List ℕ) (c : ℕ) : Type 0 where
  pub by : ℕ
  pub runs : Contains vs by
  pub edge : Edge g by c
  pub free : is_free g (marks_after marks vs) c ≡ true

small_on : (marks : List Bool) (v : ℕ) (vs : List ℕ) → ((x : ℕ) → Contains (v ∷ vs) x → x < length marks) → (x : ℕ) → Contains vs x → x < length (set marks v true)
small_on marks v vs small x c = subst (λ n. x < n) (sym (length-set marks v true)) (small x (member_tail v vs x c))

pub freed_is : (g : CostGraph) (vs : List ℕ) (marks : List Bool) (c : ℕ) → ((x : ℕ) → Contains vs x → x < length marks) → Contains (freed_by g marks vs) c → IsFreed g marks vs c
freed_is g [] marks c small h = absurd (no_member c h)
freed_is g (v ∷ vs) marks c small h =
    elim (Contains-append_cases (filter (is_free g (set marks v true)) (children_at g v)) (freed_by g (set marks v true) vs) c h) [
      | inl now ↦
          let f = from_filter (is_free g (set marks v true)) (children_at g v) c now in
          record {
            by = v;
            runs = member_head v vs;
            edge = parent_of_child g v c (out_filter (is_free g (set marks v true)) (children_at g v) c now);
            free = free_from g (marks_after (set marks v true) vs) c (λ u e. marked_after vs (set marks v true) u (small_on marks v vs small) (inl (free_parent g (set marks v true) c u f e)));
          }
      | inr late ↦
          let r = freed_is g vs (set marks v true) c (small_on marks v vs small) late in
          record { by = r.by; runs = member_tail v vs r.by r.runs; edge = r.edge; free = r.free }
    ]

-- of the numbers, one has an edge to c, or none
parent_among : (g : CostGraph) (vs : List ℕ) (c : ℕ) → ((v : ℕ) × Contains vs v × Edge g v c) ⊎ ((v : ℕ) → Contains vs v → Edge g v c → ⊥)
parent_among g [] c = inr (λ v k e. no_member v k)
parent_among g (w ∷ vs) c =
    elim (parent_among g vs c) [
      | inl p ↦ inl (p.0, member_tail w vs p.0 p.1, p.2)
      | inr none ↦ elim (member_or_not (parents_at g c) w) [
        | inl e ↦ inl (w, member_head w vs, e)
        | inr n ↦ inr (λ v k e. elim (member_cons w vs v k) [ inl s ↦ n (subst (λ x. Edge g x c) (sym s) e) | inr late ↦ none v late e ])
      ]
    ]

pub freed_has : (g : CostGraph) (vs : List ℕ) (marks : List Bool) (c by : ℕ) → ((x : ℕ) → Contains vs x → x < length marks) → Contains vs by → Edge g by c → is_free g (marks_after marks vs) c ≡ true → Contains (freed_by g marks vs) c
freed_has g [] marks c by small k e f = absurd (no_member by k)
freed_has g (v ∷ vs) marks c by small k e f =
    let small' = small_on marks v vs small in
    elim (parent_among g vs c) [
      | inl p ↦ Contains-append_right (filter (is_free g (set marks v true)) (children_at g v)) (freed_by g (set marks v true) vs) c (freed_has g vs (set marks v true) c p.0 small' p.1 p.2 f)
      | inr none ↦
          let here : v ≡ by = elim (member_cons v vs by k) [ inl s ↦ s | inr late ↦ absurd (none by late e) ] in
          let now = free_from g (set marks v true) c (λ u e'. elim (after_marked vs (set marks v true) u small' (free_parent g (marks_after (set marks v true) vs) c u f e')) [ inl m ↦ m | inr late ↦ absurd (none u late e') ]) in
          Contains-append_left (filter (is_free g (set marks v true)) (children_at g v)) (freed_by g (set marks v true) vs) c
          (in_filter (is_free g (set marks v true)) (children_at g v) c (child_of g v c (subst (λ x. Edge g x c) (sym here) e)) now)
    ]

-- ---- the state between two steps

length_after : (vs : List ℕ) (marks : List Bool) → length (marks_after marks vs) ≡ length marks
length_after [] marks = refl
length_after (v ∷ vs) marks = length_after vs (set marks v true) ∙ length-set marks v true

module _ (g : CostGraph) (marks : List Bool) (done vs : List ℕ) (state : IsDone g marks done) (runs : (v : ℕ) → Contains vs v → IsReady g done v) where
  small : (v : ℕ) → Contains vs v → v < length marks
  small v c = subst (λ n. v < n) (sym state.size) (runs v c).vertex

  pub done_next : IsDone g (marks_after marks vs) (done ++ vs)
  done_next = record {
    size = length_after vs marks ∙ state.size;
    agree = λ v. (
      λ m. elim (after_marked vs marks v small m) [ inl early ↦ Contains-append_left done vs v ((state.agree v).0 early) | inr late ↦ Contains-append_right done vs v late ],
      λ c. marked_after vs marks v small (elim (Contains-append_cases done vs v c) [ inl early ↦ inl ((state.agree v).1 early) | inr late ↦ inr late ]),
    );
    closed = λ u v e c. Contains-append_left done vs u (elim (Contains-append_cases done vs v c) [ inl early ↦ state.closed u v e early | inr late ↦ (runs v late).parents u e ]);
  }

  pub ready_then : (c : ℕ) → IsReady g (done ++ vs) c → (IsReady g done c × (Contains vs c → ⊥)) ⊎ Contains (freed_by g marks vs) c
  ready_then c r =
      elim (parent_among g vs c) [
        | inl p ↦ inr (freed_has g vs marks c p.0 small p.1 p.2 (free_from g (marks_after marks vs) c (λ u e. (done_next.agree u).1 (r.parents u e))))
        | inr none ↦ inl (
          record {
            vertex = r.vertex;
            waits = λ d. r.waits (Contains-append_left done vs c d);
            parents = λ u e. elim (Contains-append_cases done vs u (r.parents u e)) [ inl early ↦ early | inr late ↦ absurd (none u late e) ];
          },
          λ k. r.waits (Contains-append_right done vs c k),
        )
      ]

  pub then_ready : (c : ℕ) → (IsReady g done c × (Contains vs c → ⊥)) ⊎ Contains (freed_by g marks vs) c → IsReady g (done ++ vs) c
  then_ready c h = elim h [ inl p ↦ stays p | inr f ↦ comes (freed_is g vs marks c small f) ]
    where
      stays : IsReady g done c × (Contains vs c → ⊥) → IsReady g (done ++ vs) c
      stays p = record {
        vertex = p.0.vertex;
        waits = λ k. elim (Contains-append_cases done vs c k) [ inl early ↦ p.0.waits early | inr late ↦ p.1 late ];
        parents = λ u e. Contains-append_left done vs u (p.0.parents u e);
      }

      comes : IsFreed g marks vs c → IsReady g (done ++ vs) c
      comes f = record {
        vertex = edge_in g f.by c f.edge;
        waits = λ k. elim (Contains-append_cases done vs c k) [
          | inl early ↦ (runs f.by f.runs).waits (state.closed f.by c f.edge early)
          | inr late ↦ (runs f.by f.runs).waits ((runs c late).parents f.by f.edge)
        ];
        parents = λ u e. (done_next.agree u).0 (free_parent g (marks_after marks vs) c u f.free e);
      }

  -- what the step frees is what becomes ready by it
  pub freed_becomes : (c : ℕ) → Contains (freed_by g marks vs) c ↔ BecomesReady g done (done ++ vs) c
  freed_becomes c = (
    λ f. (
      then_ready c (inr f),
      λ before.
          let by = freed_is g vs marks c small f in
          (runs by.by by.runs).waits (before.parents by.by by.edge),
    ),
    λ b. elim (ready_then c b.0) [ inl stays ↦ absurd (b.1 stays.0) | inr f ↦ f ],
  )
