-- Each graph has a canonical plan: from what is ready the next step is read off, and there is an end to it.
use Rattle.std.proofs.Common.{◌≡◌, ℕ, zero, suc, ◌+◌, ◌<◌, ◌≤◌, ◌↔◌, List, [], ◌∷◌, ◌++◌, length, take, get_or, map, refl, sym, ap, ◌∙◌, subst, inl, inr, arith, Ordering}
use Rattle.std.specs.declared.cmp.Ordering.TheVariants.{Less, Equal, Greater}
use Rattle.std.specs.List.{concat, Contains, AllByRecursion}
use Rattle.std.specs.List.Sorted.{IsStrictlySortedBy}
use Rattle.std.specs.Ordering.{match_ordering, ordering_reverse}
use Rattle.std.specs.BTreeSet.{insert_key}
use Rattle.std.proofs.lemmas.Bool.{cases_eq, cases_lt}
use Rattle.cost_graph.specs.Graph.{CostGraph, vertex_total}
use Rattle.cost_graph.specs.Marks.{IsReady}
use Rattle.cost_graph.proofs.Members.{no_member}
use Rattle.cost_graph.proofs.Frontiers.{HasReady, ready_or_not}
use Rattle.prompt_checker.specs.Plan.{IsPlan, pair_cmp}
use Rattle.prompt_planner.specs.Laws.{SomeCanonicalPlan}
use Rattle.prompt_planner.proofs.Going.{IsBegun, lane_in, pair_total, begin, begun_next, adds}
use Rattle.prompt_planner.proofs.Keys.{pair_is, pair_equal, member_insert, member_inserted}
use Rattle.prompt_planner.proofs.SomeLanes.{some_vertex_lanes}

-- ---- keys in order

all_less : (a b : ℕ × ℕ) (xs : List (ℕ × ℕ)) → pair_cmp a b ≡ Less → AllByRecursion (λ y. pair_cmp b y ≡ Less) xs → AllByRecursion (λ y. pair_cmp a y ≡ Less) xs
all_less a b [] less h = tt
all_less a b (x ∷ xs) less h = (pair_total.trans a b x less h.0, all_less a b xs less h.1)

all_insert : (x k : ℕ × ℕ) (xs : List (ℕ × ℕ)) → pair_cmp x k ≡ Less → AllByRecursion (λ y. pair_cmp x y ≡ Less) xs → AllByRecursion (λ y. pair_cmp x y ≡ Less) (insert_key pair_cmp xs k)
all_insert x k [] less h = (less, tt)
all_insert x k (y ∷ ys) less h = go (pair_cmp k y) (all_insert x k ys less h.1)
  where
    go : (o : Ordering) → AllByRecursion (λ z. pair_cmp x z ≡ Less) (insert_key pair_cmp ys k) → AllByRecursion (λ z. pair_cmp x z ≡ Less) (match_ordering o (k ∷ y ∷ ys) (y ∷ ys) (y ∷ insert_key pair_cmp ys k))
    go Less later = (less, (h.0, h.1))
    go Equal later = (h.0, h.1)
    go Greater later = (h.0, later)

sorted_insert : (xs : List (ℕ × ℕ)) (k : ℕ × ℕ) → IsStrictlySortedBy pair_cmp xs → IsStrictlySortedBy pair_cmp (insert_key pair_cmp xs k)
unfolding IsStrictlySortedBy
sorted_insert [] k s = (tt, tt)
sorted_insert (x ∷ xs) k s = go (pair_cmp k x) refl (sorted_insert xs k s.1)
  where
    go : (o : Ordering) → o ≡ pair_cmp k x → IsStrictlySortedBy pair_cmp (insert_key pair_cmp xs k) → IsStrictlySortedBy pair_cmp (match_ordering o (k ∷ x ∷ xs) (x ∷ xs) (x ∷ insert_key pair_cmp xs k))
    go Less e later = ((sym e, all_less k x xs (sym e) s.0), (s.0, s.1))
    go Equal e later = s
    go Greater e later = (all_insert x k xs (pair_total.antisymm x k ∙ ap ordering_reverse (sym e)) s.0, later)

module _ (g : CostGraph) (lanes : List ℕ) where
  -- the keys of the ready vertices below n, in order
  record AreKeys (done : List ℕ) (n : ℕ) (keys : List (ℕ × ℕ)) : Type 0 where
    rising : IsStrictlySortedBy pair_cmp keys
    are : (l v : ℕ) → Contains keys (l, v) ↔ ((v < n) × IsReady g done v × (l ≡ get_or lanes v 0))

  none_rising : IsStrictlySortedBy pair_cmp []
  unfolding IsStrictlySortedBy
  none_rising = tt

  key_is : (n l v : ℕ) (key : ℕ × ℕ) → key.0 ≡ get_or lanes n 0 → key.1 ≡ n → v ≡ n → l ≡ get_or lanes v 0 → key ≡ (l, v)
  key_is n l v key first second at lane = pair_is key (l, v) (first ∙ ap (λ w. get_or lanes w 0) (sym at) ∙ sym lane) (second ∙ sym at)

  keys_to : (done : List ℕ) (n : ℕ) → n ≤ vertex_total g → (keys : List (ℕ × ℕ)) × AreKeys done n keys
  keys_to done zero le = ([], record { rising = none_rising; are = λ l v. (λ c. absurd (no_member (l, v) c), λ h. absurd (omega (arith, h.0))) })
  keys_to done (suc n) le =
      let now = keys_to done n (omega (arith, le)) in
      let key : ℕ × ℕ = (get_or lanes n 0, n) in
      elim (ready_or_not g done n (omega (arith, le))) [
        | inr none ↦ (
          now.0,
          record {
            rising = now.1.rising;
            are = λ l v. (
              λ c. let h = (now.1.are l v).0 c in (omega (arith, h.0), h.1, h.2),
              λ h. elim (cases_eq v n) [
                | inl same ↦ absurd (none (subst (IsReady g done) same h.1))
                | inr other ↦ (now.1.are l v).1 (omega (arith, h.0, other), h.1, h.2)
              ],
            );
          },
        )
        | inl ready ↦ (
          insert_key pair_cmp now.0 key,
          record {
            rising = sorted_insert now.0 key now.1.rising;
            are = λ l v. (
              λ c. elim (member_insert pair_cmp pair_equal now.0 key (l, v) c) [
                | inl old ↦ let h = (now.1.are l v).0 old in (omega (arith, h.0), h.1, h.2)
                | inr same ↦
                    let at : n ≡ v = ap (λ (k : ℕ × ℕ). k.1) same in
                    let lane : get_or lanes n 0 ≡ l = ap (λ (k : ℕ × ℕ). k.0) same in
                    (omega (arith, at), subst (IsReady g done) at ready, sym lane ∙ ap (λ w. get_or lanes w 0) at)
              ],
              λ h. member_inserted pair_cmp pair_equal now.0 key (l, v) (elim (cases_eq v n) [
                | inl same ↦ inr (key_is n l v key refl refl same h.2)
                | inr other ↦ inl ((now.1.are l v).1 (omega (arith, h.0, other), h.1, h.2))
              ]),
            );
          },
        )
      ]

  keys_of : (done : List ℕ) → (keys : List (ℕ × ℕ)) × IsStrictlySortedBy pair_cmp keys × HasReady g (lane_in lanes) done (λ l v. Contains keys (l, v))
  keys_of done =
      let all = keys_to done (vertex_total g) (omega arith) in
      (all.0, all.1.rising, λ l v. (λ c. let h = (all.1.are l v).0 c in (h.1, h.2), λ h. (all.1.are l v).1 (h.0.vertex, h.0, h.1)))

  module _ (cores : ℕ) (one : 1 ≤ cores) where
    ended : (steps : List (List ℕ)) → IsBegun g lanes cores steps → length (keys_of (concat steps)).0 ≡ 0 → IsPlan g lanes cores steps
    ended steps begun none = record {
      each = begun.each;
      none_left = λ v r.
          let k = ((keys_of (concat steps)).2 (get_or lanes v 0) v).1 (r, refl) in
          let past : k.0 < 0 = omega (arith, k.1, none) in
          omega (arith, past);
    }

    plan_from : (fuel : ℕ) (steps : List (List ℕ)) → IsBegun g lanes cores steps → vertex_total g ≤ fuel + length (concat steps) → (all : List (List ℕ)) × IsPlan g lanes cores all
    plan_from zero steps begun enough =
        let k = keys_of (concat steps) in
        elim (cases_lt 0 (length k.0)) [
          | inr none ↦ (steps, ended steps begun (omega (arith, none)))
          | inl some ↦ let more = adds g lanes cores k.0 steps begun k.2 k.1 one some in absurd (omega (arith, more.0, more.1, enough))
        ]
    plan_from (suc fuel) steps begun enough =
        let k = keys_of (concat steps) in
        elim (cases_lt 0 (length k.0)) [
          | inr none ↦ (steps, ended steps begun (omega (arith, none)))
          | inl some ↦
              let more = adds g lanes cores k.0 steps begun k.2 k.1 one some in
              plan_from fuel (steps ++ map (λ x. x.1) (take cores k.0) ∷ []) (begun_next g lanes cores k.0 steps begun k.2 k.1 one some) (omega (arith, more.0, enough))
        ]

pub canonical_some : SomeCanonicalPlan
canonical_some g pairs count cores ok lawful priorities one =
    let lanes = some_vertex_lanes pairs count lawful g ok priorities in
    let plan = plan_from g lanes.0 cores one (vertex_total g) [] (begin g lanes.0 cores) (omega arith) in
    (plan.0, record { lanes = lanes.0; are = lanes.1; plan = plan.1 })
