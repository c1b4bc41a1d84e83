-- What a plan keeps from step to step.
use Rattle.std.proofs.Common.{◌≡◌, ℕ, zero, suc, ◌+◌, ◌-◌, ◌<◌, ◌≤◌, false, List, [], ◌∷◌, ◌++◌, length, take, drop, get_or, map, refl, sym, ap, ◌∙◌, subst, inl, inr, arith, ◌⊎◌, ◌↔◌}
use Rattle.std.specs.Prelude.{nat_eq}
use Rattle.std.specs.declared.cmp.Ordering.TheVariants.{Less, Equal}
use Rattle.std.specs.List.{concat, Contains, IsDistinct, AllByRecursion}
use Rattle.std.specs.List.Sorted.{IsStrictlySortedBy}
use Rattle.std.specs.Cmp.{IsTotalOrder}
use Rattle.std.proofs.lemmas.Cmp.{tied_itself, nat_cmp_total, then_total, on_total}
use Rattle.std.proofs.lemmas.List.Elements.{Contains-append_cases, All-contains, All-from_recursion}
use Rattle.std.proofs.lemmas.List.{append-nil, take-append-drop, take-append-le, length-append, length-map, length-take}
use Rattle.std.proofs.lemmas.Bool.{cases_lt, ne_eqb}
use Rattle.std.proofs.lemmas.Map.Made.{is_member-Decides}
use Rattle.std.proofs.lemmas.Map.Steps.{length-le_from_distinct_below}
use Rattle.std.proofs.Math.Seq.{get_or-append_seam, take-length}
use Rattle.std.proofs.Math.ListN.{get_or-append}
use Rattle.cost_graph.specs.Graph.{CostGraph, vertex_total}
use Rattle.cost_graph.specs.Marks.{IsReady, BecomesReady}
use Rattle.cost_graph.specs.Frontier.{Progress}
use Rattle.cost_graph.proofs.Frontiers.{HasReady, ready_first, ready_next}
use Rattle.cost_graph.proofs.Members.{decides_eq, distinct_join, in_drop, in_take, no_member, member_cons, member_head, member_tail}
use Rattle.prompt_checker.specs.Plan.{IsPlanned, pair_cmp}
use Rattle.prompt_checker.specs.Schedule.{vertices_before}
use Rattle.prompt_checker.proofs.Steps.{concat_append}
use Rattle.prompt_planner.proofs.Keys.{pair_is}

pub pair_total : IsTotalOrder pair_cmp
pair_total = then_total (on_total (λ (p : ℕ × ℕ). p.0) nat_cmp_total) (on_total (λ (p : ℕ × ℕ). p.1) nat_cmp_total)

pub same_pair : (a : ℕ × ℕ) → pair_cmp a a ≡ Equal
same_pair a = tied_itself pair_total a

apart : (keys : List (ℕ × ℕ)) (n : ℕ) (k : ℕ × ℕ) → IsStrictlySortedBy pair_cmp keys → Contains (take n keys) k → Contains (drop n keys) k → ⊥
unfolding IsStrictlySortedBy
apart [] zero k s a b = no_member k a
apart [] (suc n) k s a b = no_member k a
apart (x ∷ xs) zero k s a b = no_member k a
apart (x ∷ xs) (suc n) k s a b =
    elim (member_cons x (take n xs) k a) [
      | inl e ↦
          let less = All-contains (λ y. pair_cmp x y ≡ Less) xs k (All-from_recursion (λ y. pair_cmp x y ≡ Less) xs s.0) (in_drop xs n k b) in
          let same = subst (λ y. pair_cmp x y ≡ Equal) e (same_pair x) in
          cc (less, same)
      | inr late ↦ apart xs n k s.1 late b
    ]

-- a member of a map is the image of a member
pub from_map : (ks : List (ℕ × ℕ)) (v : ℕ) → Contains (map (λ k. k.1) ks) v → (k : ℕ × ℕ) × Contains ks k × (k.1 ≡ v)
from_map [] v c = absurd (no_member v c)
from_map (k ∷ ks) v c =
    elim (member_cons k.1 (map (λ x. x.1) ks) v c) [
      | inl e ↦ (k, member_head k ks, e)
      | inr late ↦ let r = from_map ks v late in (r.0, member_tail k ks r.0 r.1, r.2)
    ]

pub into_map : (ks : List (ℕ × ℕ)) (k : ℕ × ℕ) → Contains ks k → Contains (map (λ x. x.1) ks) k.1
into_map [] k c = absurd (no_member k c)
into_map (x ∷ ks) k c =
    elim (member_cons x ks k c) [
      | inl e ↦ subst (λ y. Contains (map (λ z. z.1) (x ∷ ks)) y) (ap (λ y. y.1) e) (member_head x.1 (map (λ z. z.1) ks))
      | inr late ↦ member_tail x.1 (map (λ z. z.1) ks) k.1 (into_map ks k late)
    ]

-- the vertices of keys in order, each behind its lane, are distinct
pub distinct_step : (lanes : List ℕ) (keys : List (ℕ × ℕ)) → IsStrictlySortedBy pair_cmp keys → ((k : ℕ × ℕ) → Contains keys k → k.0 ≡ get_or lanes k.1 0) → (n : ℕ) → IsDistinct nat_eq (map (λ k. k.1) (take n keys))
unfolding IsStrictlySortedBy IsDistinct
distinct_step lanes [] s lane zero = tt
distinct_step lanes [] s lane (suc n) = tt
distinct_step lanes (x ∷ xs) s lane zero = tt
distinct_step lanes (x ∷ xs) s lane (suc n) =
    (apart (take n xs) (λ k c. in_take xs n k c), distinct_step lanes xs s.1 (λ k c. lane k (member_tail x xs k c)) n)
  where
    other : (y : ℕ × ℕ) → Contains xs y → x.1 ≡ y.1 → ⊥
    other y c e =
        let first = lane x (member_head x xs) ∙ ap (λ v. get_or lanes v 0) e ∙ sym (lane y (member_tail x xs y c)) in
        let same = pair_is x y first e in
        let less = All-contains (λ z. pair_cmp x z ≡ Less) xs y (All-from_recursion (λ z. pair_cmp x z ≡ Less) xs s.0) c in
        let tied = subst (λ z. pair_cmp x z ≡ Equal) same (same_pair x) in
        cc (less, tied)

    apart : (ys : List (ℕ × ℕ)) → ((k : ℕ × ℕ) → Contains ys k → Contains xs k) → AllByRecursion (λ v. nat_eq x.1 v ≡ false) (map (λ k. k.1) ys)
    apart [] sub = tt
    apart (y ∷ ys) sub = (ne_eqb x.1 y.1 (other y (sub y (member_head y ys))), apart ys (λ k c. sub k (member_tail y ys k c)))

abbrev pub lane_in : List ℕ → ℕ → ℕ
lane_in lanes v = get_or lanes v 0

-- the steps so far are planned, each vertex once
pub record IsBegun (g : CostGraph) (lanes : List ℕ) (cores : ℕ) (steps : List (List ℕ)) : Type 0 where
  pub each : (i : ℕ) → i < length steps → IsPlanned g lanes cores (vertices_before steps i) (get_or steps i [])
  pub once : IsDistinct nat_eq (concat steps)
  pub within : (v : ℕ) → Contains (concat steps) v → v < vertex_total g

pub record IsGoing (g : CostGraph) (lanes : List ℕ) (cores : ℕ) (at : Progress) (keys : List (ℕ × ℕ)) (steps : List (List ℕ)) : Type 0 where
  pub at_is : at ≡ record { graph = g; ran = concat steps }
  pub keyed : HasReady g (lane_in lanes) (concat steps) (λ l v. Contains keys (l, v))
  pub begun : IsBegun g lanes cores steps

-- distinct numbers below n are at most n
few : (xs : List ℕ) (n : ℕ) → IsDistinct nat_eq xs → ((v : ℕ) → Contains xs v → v < n) → length xs ≤ n
few xs n once below = length-le_from_distinct_below xs n once (λ q e. below q ((is_member-Decides decides_eq xs q).0 e))

-- a step from these keys, with what was left and what became ready
pub record IsStep (g : CostGraph) (lanes : List ℕ) (cores : ℕ) (at : Progress) (keys : List (ℕ × ℕ)) (step freed : List ℕ) (keys' : List (ℕ × ℕ)) : Type 0 where
  pub first : step ≡ map (λ k. k.1) (take cores keys)
  pub comes : (v : ℕ) → Contains freed v ↔ BecomesReady at.graph at.ran (at.ran ++ step) v
  pub are : (k : ℕ × ℕ) → Contains keys' k ↔ (Contains (drop cores keys) k ⊎ (Contains freed k.1 × (k.0 ≡ get_or lanes k.1 0)))

module _ (g : CostGraph) (lanes : List ℕ) (cores : ℕ) (keys : List (ℕ × ℕ)) (steps : List (List ℕ)) (begun : IsBegun g lanes cores steps) (keyed : HasReady g (lane_in lanes) (concat steps) (λ l v. Contains keys (l, v))) (rising : IsStrictlySortedBy pair_cmp keys) where
  abbrev step : List ℕ
  step = map (λ k. k.1) (take cores keys)

  runs : (v : ℕ) → Contains step v → IsReady g (concat steps) v
  runs v c =
      let k = from_map (take cores keys) v c in
      subst (IsReady g (concat steps)) k.2 ((keyed k.0.0 k.0.1).0 (in_take keys cores k.0 k.1)).0

  all_done : concat (steps ++ step ∷ []) ≡ concat steps ++ step
  all_done = concat_append steps (step ∷ []) ∙ ap (λ l. concat steps ++ l) (append-nil step)

  step_once : IsDistinct nat_eq step
  step_once = distinct_step lanes keys rising (λ k c. ((keyed k.0 k.1).0 c).1) cores

  done_once : IsDistinct nat_eq (concat steps ++ step)
  done_once = distinct_join (concat steps) step begun.once step_once (λ v a b. (runs v b).waits a)

  done_within : (v : ℕ) → Contains (concat steps ++ step) v → v < vertex_total g
  done_within v c = elim (Contains-append_cases (concat steps) step v c) [ inl early ↦ begun.within v early | inr late ↦ (runs v late).vertex ]

  step_some : 1 ≤ cores → 0 < length keys → 0 < length step
  step_some one some = omega (arith, length-map {A = ℕ × ℕ} {B = ℕ} (take cores keys) (λ k. k.1), length-take cores keys, one, some)

  -- the step adds vertices, no more than there are
  pub adds : 1 ≤ cores → 0 < length keys → (length (concat steps) < length (concat (steps ++ step ∷ []))) × (length (concat (steps ++ step ∷ [])) ≤ vertex_total g)
  adds one some =
      let both = length-append (concat steps) step in
      let more = step_some one some in
      let whole = ap length all_done in
      (omega (arith, both, more, whole), omega (arith, whole, few (concat steps ++ step) (vertex_total g) done_once done_within))

  -- with it the steps are planned as before
  pub begun_next : 1 ≤ cores → 0 < length keys → IsBegun g lanes cores (steps ++ step ∷ [])
  begun_next one some = record {
    each = λ i lt. kept i lt (cases_lt i (length steps));
    once = subst (IsDistinct nat_eq) (sym all_done) done_once;
    within = λ v c. done_within v (subst (λ l. Contains l v) all_done c);
  }
    where
      planned : IsPlanned g lanes cores (concat steps) step
      planned = record { keys = keys; ready = record { rising = rising; are = λ k. keyed k.0 k.1 }; first = refl; some = step_some one some }

      kept : (i : ℕ) → i < length (steps ++ step ∷ []) → (i < length steps) ⊎ (length steps ≤ i) → IsPlanned g lanes cores (vertices_before (steps ++ step ∷ []) i) (get_or (steps ++ step ∷ []) i [])
      kept i lt (inl early) =
          let short : i ≤ length steps = omega (arith, early) in
          rw (take-append-le i steps (step ∷ []) short, get_or-append steps (step ∷ []) [] i early) (begun.each i early)
      kept i lt (inr late) =
          let e : i ≡ length steps = omega (arith, late, lt, length-append steps (step ∷ [])) in
          let le : length steps ≤ length steps = omega arith in
          rw e (rw (take-append-le (length steps) steps (step ∷ []) le, take-length steps, get_or-append_seam steps step [] []) planned)

module _ (g : CostGraph) (lanes : List ℕ) (cores : ℕ) (at : Progress) (keys : List (ℕ × ℕ)) (steps : List (List ℕ)) (now : IsGoing g lanes cores at keys steps) (rising : IsStrictlySortedBy pair_cmp keys) where
  abbrev next_step : List ℕ
  next_step = map (λ k. k.1) (take cores keys)

  -- the step is of ready vertices
  pub runs_at : (stp : List ℕ) → stp ≡ map (λ k. k.1) (take cores keys) → (v : ℕ) → Contains stp v → IsReady at.graph at.ran v
  runs_at stp e v c = subst (λ (p : Progress). IsReady p.graph p.ran v) (sym now.at_is) (runs g lanes cores keys steps now.begun now.keyed rising v (subst (λ l. Contains l v) e c))

  done_is : concat (steps ++ next_step ∷ []) ≡ concat steps ++ next_step
  done_is = all_done g lanes cores keys steps now.begun now.keyed rising

  -- fewer vertices are left
  pub falls_next : 1 ≤ cores → 0 < length keys → (stp : List ℕ) (next : Progress) → stp ≡ map (λ k. k.1) (take cores keys) → next.ran ≡ at.ran ++ stp → vertex_total g - length next.ran < vertex_total g - length at.ran
  falls_next one some stp next e ran =
      let at_long : length at.ran ≡ length (concat steps) = ap (λ (p : Progress). length p.ran) now.at_is in
      let next_long : length next.ran ≡ length at.ran + length next_step = ap length ran ∙ length-append at.ran stp ∙ ap (λ (l : List ℕ). length at.ran + length l) e in
      let more = adds g lanes cores keys steps now.begun now.keyed rising one some in
      let whole : length (concat (steps ++ next_step ∷ [])) ≡ length (concat steps) + length next_step = ap length done_is ∙ length-append (concat steps) next_step in
      omega (arith, at_long, next_long, more.0, more.1, whole)

  -- what was left, and what became ready
  pub going_next : 1 ≤ cores → 0 < length keys → (stp freed : List ℕ) (next : Progress) (keys' : List (ℕ × ℕ)) (steps' : List (List ℕ)) → IsStep g lanes cores at keys stp freed keys'
      → next.graph ≡ at.graph → next.ran ≡ at.ran ++ stp → steps' ≡ steps ++ stp ∷ [] → IsGoing g lanes cores next keys' steps'
  going_next one some stp freed next keys' steps' is graph ran e =
      subst (IsGoing g lanes cores next keys') (sym (e ∙ ap (λ x. steps ++ x ∷ []) is.first)) (record {
        at_is = next_is;
        keyed = subst (λ l. HasReady g (lane_in lanes) l (λ l v. Contains keys' (l, v))) (sym done_is) moved;
        begun = begun_next g lanes cores keys steps now.begun now.keyed rising one some;
      })
    where
      graph_is : next.graph ≡ g
      graph_is = graph ∙ ap (λ (p : Progress). p.graph) now.at_is

      ran_is : next.ran ≡ concat (steps ++ next_step ∷ [])
      ran_is = ran ∙ ap (λ (p : Progress). p.ran ++ stp) now.at_is ∙ ap (λ (l : List ℕ). concat steps ++ l) is.first ∙ sym done_is

      next_is : next ≡ record { graph = g; ran = concat (steps ++ next_step ∷ []) }
      next_is = λ i. record { graph = graph_is i; ran = ran_is i }

      comes : (v : ℕ) → Contains freed v ↔ BecomesReady g (concat steps) (concat steps ++ next_step) v
      comes =
          subst (λ (l : List ℕ). (v : ℕ) → Contains freed v ↔ BecomesReady g (concat steps) (concat steps ++ l) v) is.first
          (subst (λ (p : Progress). (v : ℕ) → Contains freed v ↔ BecomesReady p.graph p.ran (p.ran ++ stp) v) now.at_is is.comes)

      -- a key that is left is one whose vertex is not in the step
      left : (l v : ℕ) → Contains (drop cores keys) (l, v) → Contains next_step v → ⊥
      left l v d r =
          let j = from_map (take cores keys) v r in
          let mine = (now.keyed l v).0 (in_drop keys cores (l, v) d) in
          let lane = ((now.keyed j.0.0 j.0.1).0 (in_take keys cores j.0 j.1)).1 in
          let same = pair_is j.0 (l, v) (lane ∙ ap (λ x. get_or lanes x 0) j.2 ∙ sym mine.1) j.2 in
          apart keys cores (l, v) rising (subst (Contains (take cores keys)) same j.1) d

      moved : HasReady g (lane_in lanes) (concat steps ++ next_step) (λ l v. Contains keys' (l, v))
      moved = ready_next g (lane_in lanes) (concat steps) next_step freed (λ l v. Contains keys (l, v)) (λ l v. Contains keys' (l, v)) now.keyed comes (λ l v. (
        λ c. elim ((is.are (l, v)).0 c) [ inl d ↦ inl (in_drop keys cores (l, v) d, left l v d) | inr f ↦ inr f ],
        λ h. (is.are (l, v)).1 (elim h [
          | inr f ↦ inr f
          | inl stays ↦ elim (Contains-append_cases (take cores keys) (drop cores keys) (l, v) (subst (λ x. Contains x (l, v)) (sym (take-append-drop cores keys)) stays.0)) [
            | inl early ↦ absurd (stays.1 (into_map (take cores keys) (l, v) early))
            | inr late ↦ inl late
          ]
        ]),
      ))

none_twice : IsDistinct nat_eq []
unfolding IsDistinct
none_twice = tt

pub begin : (g : CostGraph) (lanes : List ℕ) (cores : ℕ) → IsBegun g lanes cores []
begin g lanes cores = record { each = λ i lt. absurd (omega (arith, lt)); once = none_twice; within = λ v c. absurd (no_member v c) }

-- at the start the keys are those of what is ready
pub starting : (g : CostGraph) (lanes : List ℕ) (cores : ℕ) (at : Progress) (found : List ℕ) (keys : List (ℕ × ℕ)) → at ≡ record { graph = g; ran = [] } → ((v : ℕ) → Contains found v ↔ IsReady at.graph at.ran v)
    → ((k : ℕ × ℕ) → Contains keys k ↔ (Contains [] k ⊎ (Contains found k.1 × (k.0 ≡ get_or lanes k.1 0)))) → IsGoing g lanes cores at keys []
starting g lanes cores at found keys e are keyed = record {
  at_is = e;
  keyed = ready_first g (lane_in lanes) [] found (λ l v. Contains keys (l, v)) (subst (λ (p : Progress). (v : ℕ) → Contains found v ↔ IsReady p.graph p.ran v) e are) (λ l v. (
    λ c. elim ((keyed (l, v)).0 c) [ inl z ↦ absurd (no_member (l, v) z) | inr h ↦ h ],
    λ h. (keyed (l, v)).1 (inr h),
  ));
  begun = begin g lanes cores;
}
