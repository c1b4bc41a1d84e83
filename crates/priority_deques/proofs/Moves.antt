-- Each move keeps the rule of a deque.
use Rattle.std.proofs.Common.{◌≡◌, ℕ, zero, suc, ◌+◌, List, [], ◌∷◌, ◌++◌, set, Some, sym, refl, ap, ◌∙◌, subst, ⊎_elim, inl, inr, arith}
use Rattle.std.proofs.lemmas.Option.{same_Some, none-some}
use mathlib.Core.Option.{some, some-ne-none, some-injective}
use lib.ListN.{get_elem?}
use Rattle.crossbeam_deque.specs.Tasks.{Pushes, Takes, Forks}
use Rattle.crossbeam_deque.proofs.Lists.{at_snoc}
use Rattle.type_rules.specs.Jobs.{WithInputs}
use Rattle.task_state.specs.declared.task.Task.{Task}
use Rattle.task_state.specs.Tasks.{TaskKey}
use Rattle.priority_deques.specs.declared.view.LaneView.{LaneView}
use Rattle.task_state.specs.Sums.{total}
use Rattle.priority_deques.specs.Inside.Rule.{AllFit, Each, HasPut, HasTaken, IsLaneDeque, Kept, key, keys, newcomer, unnamed}
use Rattle.task_state.proofs.Sums.{each_set, total_append, total_same, total_set}

fit_left : (job : WithInputs) (lane : ℕ) (xs ys : List Task) → AllFit job lane (xs ++ ys) → AllFit job lane xs
fit_left job lane [] ys h = tt
fit_left job lane (x ∷ xs) ys h = (h.0, fit_left job lane xs ys h.1)

fit_right : (job : WithInputs) (lane : ℕ) (xs ys : List Task) → AllFit job lane (xs ++ ys) → AllFit job lane ys
fit_right job lane [] ys h = h
fit_right job lane (x ∷ xs) ys h = fit_right job lane xs ys h.1

fit_append : (job : WithInputs) (lane : ℕ) (xs ys : List Task) → AllFit job lane xs → AllFit job lane ys → AllFit job lane (xs ++ ys)
fit_append job lane [] ys a b = b
fit_append job lane (x ∷ xs) ys a b = (a.0, fit_append job lane xs ys a.1 b)

weigh_keys : (h : TaskKey → ℕ) (xs : List Task) → total h (keys xs) ≡ total (λ t. h (key t)) xs
weigh_keys h [] = refl
weigh_keys h (x ∷ xs) = ap (λ n. h (key x) + n) (weigh_keys h xs)

at_one : (v u : LaneView) (j : ℕ) → get_elem? (v ∷ []) j ≡ some u → (j ≡ 0) × (v ≡ u)
at_one v u zero e = (refl, some-injective v u e)
at_one v u (suc j) e = absurd (some-ne-none u (sym e))

-- a deque with a named pass is not just made
not_new : (port : ℕ) (v : LaneView) (views : List LaneView) (job : WithInputs) → v.job ≡ Some job → get_elem? views port ≡ some v → views ≡ unnamed ∷ [] → ⊥
not_new port v views job n at e = none-some job (ap (λ (y : LaneView). y.job) (at_one unnamed v port (subst (λ (vs : List LaneView). get_elem? vs port ≡ some v) e at)).1 ∙ n)

-- it is that of a lane of a job
of_lane : (port : ℕ) (v : LaneView) (items : List Task) (views : List LaneView) (job : WithInputs) → v.job ≡ Some job → get_elem? views port ≡ some v → Kept items views → (job : WithInputs) × (lane : ℕ) × IsLaneDeque job lane items views
of_lane port v items views job n at = ⊎_elim (λ h. absurd (not_new port v views job n at h.1)) (λ h. h)

pub pushes : (port : ℕ) (v : LaneView) (xs : List Task) (job : WithInputs) → v.job ≡ Some job → AllFit job v.lane xs → Pushes Kept port v xs (HasPut v xs)
pushes port v xs job n fit items views kept at = let w : LaneView = record v { put = v.put ++ keys xs } in let d = of_lane port v items views job n at kept in let k = d.2 in let mine = k.named port v at in (
  w,
  inr (
    d.0,
    d.1,
    record {
      fit = fit_append d.0 d.1 items xs k.fit (subst (λ (z : WithInputs × ℕ). AllFit z.0 z.1 xs) (λ i. (same_Some job d.0 (sym n ∙ mine.0) i, mine.1 i)) fit);
      named = each_set (λ _ u. (u.job ≡ Some d.0) × (u.lane ≡ d.1)) views port w mine (λ j u _ e. k.named j u e);
      balanced = λ h. let a = total_set (λ (u : LaneView). total h u.put) views port v w at in let b = total_set (λ (u : LaneView). total h u.taken) views port v w at in let c = total_append h v.put (keys xs) in
          let e = weigh_keys h xs in let f = total_append (λ t. h (key t)) items xs in let o = k.balanced h in omega arith;
    },
  ),
  refl,
)

pub takes : (port : ℕ) (v : LaneView) (most : ℕ) (job : WithInputs) → v.job ≡ Some job → Takes Kept port v most (HasTaken v)
takes port v most job n xs items views _ _ kept at = let w : LaneView = record v { taken = v.taken ++ keys xs } in let d = of_lane port v (xs ++ items) views job n at kept in let k = d.2 in let mine = k.named port v at in (
  w,
  inr (
    d.0,
    d.1,
    record {
      fit = fit_right d.0 d.1 xs items k.fit;
      named = each_set (λ _ u. (u.job ≡ Some d.0) × (u.lane ≡ d.1)) views port w mine (λ j u _ e. k.named j u e);
      balanced = λ h. let a = total_set (λ (u : LaneView). total h u.put) views port v w at in let b = total_set (λ (u : LaneView). total h u.taken) views port v w at in let c = total_append h v.taken (keys xs) in
          let e = weigh_keys h xs in let f = total_append (λ t. h (key t)) xs items in let o = k.balanced h in omega arith;
    },
  ),
  (refl, λ other is. subst (λ (z : WithInputs × ℕ). AllFit z.0 z.1 xs) (λ i. (same_Some d.0 other (sym mine.0 ∙ is) i, sym mine.1 i)) (fit_left d.0 d.1 xs items k.fit)),
)

pub pops : (port : ℕ) (v : LaneView) (job : WithInputs) → v.job ≡ Some job → (x : Task) (items : List Task) (views : List LaneView) → Kept (x ∷ items) views → get_elem? views port ≡ some v
    → (w : LaneView) × Kept items (set views port w) × HasTaken v (x ∷ []) w
pops port v job n x items views k at = takes port v 1 job n (x ∷ []) items views (omega arith) (omega arith) k at

two : (job : WithInputs) (lane : ℕ) → Each (λ v. (v.job ≡ Some job) × (v.lane ≡ lane)) (newcomer job lane ∷ newcomer job lane ∷ [])
two job lane zero u e = let s = some-injective (newcomer job lane) u e in (sym (ap (λ (y : LaneView). y.job) s), sym (ap (λ (y : LaneView). y.lane) s))
two job lane (suc j) u e = let s = (at_one (newcomer job lane) u j e).1 in (sym (ap (λ (y : LaneView). y.job) s), sym (ap (λ (y : LaneView). y.lane) s))

pub names : (port : ℕ) (job : WithInputs) (lane : ℕ) → Forks Kept port unnamed (newcomer job lane) (newcomer job lane)
names port job lane items views kept at = ⊎_elim
    (λ (h : (items ≡ []) × (views ≡ unnamed ∷ [])). let first = (at_one unnamed unnamed port (subst (λ (vs : List LaneView). get_elem? vs port ≡ some unnamed) h.1 at)).0 in
    subst (λ (z : List Task × List LaneView × ℕ). Kept z.0 (set z.1 z.2 (newcomer job lane) ++ newcomer job lane ∷ [])) (λ i. (sym h.0 i, sym h.1 i, sym first i))
    (inr (job, lane, record { fit = tt; named = two job lane; balanced = λ h. refl })))
    (λ (d : (job : WithInputs) × (lane : ℕ) × IsLaneDeque job lane items views). absurd (none-some d.0 (d.2.named port unnamed at).0)) kept

pub twins : (port : ℕ) (v : LaneView) (job : WithInputs) → v.job ≡ Some job → Forks Kept port v v (record v { put = []; taken = [] })
twins port v job n items views kept at = let w : LaneView = record v { put = []; taken = [] } in let d = of_lane port v items views job n at kept in let k = d.2 in let mine = k.named port v at in let vs = set views port v in
    let others = each_set (λ _ u. (u.job ≡ Some d.0) × (u.lane ≡ d.1)) views port v mine (λ j u _ e. k.named j u e) in
    inr (
      d.0,
      d.1,
      record {
        fit = k.fit;
        named = λ j u e. ⊎_elim (λ x. others j u x) (λ (is : w ≡ u). (sym (ap (λ (y : LaneView). y.job) is) ∙ mine.0, sym (ap (λ (y : LaneView). y.lane) is) ∙ mine.1)) (at_snoc vs w u j e);
        balanced = λ h. let a = total_same (λ (u : LaneView). total h u.put) views port v v at refl in let b = total_same (λ (u : LaneView). total h u.taken) views port v v at refl in
            let c = total_append (λ (u : LaneView). total h u.put) vs (w ∷ []) in let e = total_append (λ (u : LaneView). total h u.taken) vs (w ∷ []) in let o = k.balanced h in omega arith;
      },
    )

pub begins : Kept [] (unnamed ∷ [])
begins = inl (refl, refl)
