-- The stop word, and the views split and joined.
use Rattle.std.proofs.Common.{◌≡◌, ◌≢◌, ℕ, ◌+◌, ◌<◌, ◌≤◌, List, [], ◌∷◌, ◌++◌, set, sym, refl, ap, ◌∙◌, subst, ⊎_elim, inl, inr, arith}
use mathlib.Core.Logic.{dite}
use mathlib.Core.Option.{some}
use native.Mathlib.Decide.{ℕ_discrete}
use lib.ListN.{get_elem?}
use Rattle.join_board.specs.declared.view.About.{About}
use Rattle.join_board.specs.declared.view.View.{View}
use Rattle.task_state.specs.Sums.{total}
use Rattle.join_board.specs.Logs.{Each}
use Rattle.join_board.specs.Inside.Views.{left, right, both, spent_view, asked_limit_view, asked_memory_view, unset_view, found_limit_view, found_memory_view}
use Rattle.join_board.specs.Rule.{calls, asks, StopTrue, StopCause, KeepsSpent}
use Rattle.task_state.proofs.Sums.{total_set, total_same, total_split, total_join, each_set, each_split, each_join}

-- the stop goes to stop', and never back to 0
stops : (key : About) (work spent stop stop' : ℕ) (views : List View) (id : ℕ) (v w : View) → KeepsSpent key work spent stop views → get_elem? views id ≡ some v → w.uncounted ≡ v.uncounted → asks v ≤ asks w → (stop ≢ 0 → stop' ≢ 0)
    → StopCause key spent stop' (total asks (set views id w)) → StopTrue key spent stop' (total asks (set views id w)) w → KeepsSpent key work spent stop' (set views id w)
stops key work spent stop stop' views id v w r at uncounted more stays cause mine = let a = total_set asks views id v w at in record {
  sum = ap (λ (z : ℕ). spent + z) (total_same (λ u. u.uncounted) views id v w at uncounted) ∙ r.sum;
  cause = cause;
  each = each_set (λ _ u. StopTrue key spent stop' (total asks (set views id w)) u) views id w mine (λ j u _ e. let h = r.each j u e in (h.0, (λ z. stays (h.1 z)), h.2, λ z. let b = h.3 z in omega (arith, a, b, more)));
}

more_asks : (key : About) (spent stop asked asked' : ℕ) → asked ≤ asked' → StopCause key spent stop asked → StopCause key spent stop asked'
more_asks key spent stop asked asked' l = λ c. ⊎_elim (λ z. inl z) (λ z. inr (⊎_elim (λ y. inl y) (λ y. inr (y.0, (let b = y.1 in omega (arith, b, l)))) z)) c

pub spent_asked_limit : (key : About) (work spent stop stop' : ℕ) (views : List View) (id : ℕ) (v : View) → KeepsSpent key work spent stop views → get_elem? views id ≡ some v → (stop ≡ 0 → stop' ≡ 1) → (stop ≢ 0 → stop' ≡ stop) → key.limit < spent
    → KeepsSpent key work spent stop' (set views id (asked_limit_view v))
spent_asked_limit key work spent stop stop' views id v r at first later over = let w : View = asked_limit_view v in let a : total asks (set views id w) ≡ total asks views = total_same asks views id v w at refl in let h = r.each id v at in
    let set_now : stop' ≢ 0 = λ z. dite (ℕ_discrete stop 0) (λ e. let f = first e in absurd (omega (arith, f, z))) (λ n. n (sym (later n) ∙ z)) in
    stops key work spent stop stop' views id v w r at refl (omega arith) (λ _. set_now)
    (dite (ℕ_discrete stop 0) (λ e. inr (inl (first e, over))) (λ n. subst (λ (z : ℕ). StopCause key spent z (total asks (set views id w))) (sym (later n)) (subst (StopCause key spent stop) (sym a) r.cause)))
    (h.0, (λ _. set_now), h.2, λ z. let b = h.3 z in omega (arith, a, b))

pub spent_asked_memory : (key : About) (work spent stop stop' : ℕ) (views : List View) (id : ℕ) (v : View) → KeepsSpent key work spent stop views → get_elem? views id ≡ some v → (stop ≡ 0 → stop' ≡ 2) → (stop ≢ 0 → stop' ≡ stop)
    → KeepsSpent key work spent stop' (set views id (asked_memory_view v))
spent_asked_memory key work spent stop stop' views id v r at first later = let w : View = asked_memory_view v in let a = total_set asks views id v w at in let h = r.each id v at in
    let set_now : stop' ≢ 0 = λ z. dite (ℕ_discrete stop 0) (λ e. let f = first e in absurd (omega (arith, f, z))) (λ n. n (sym (later n) ∙ z)) in
    let some_ask : 0 < total asks (set views id w) = omega (arith, a) in
    stops key work spent stop stop' views id v w r at refl (omega arith) (λ _. set_now)
    (dite (ℕ_discrete stop 0) (λ e. inr (inr (first e, some_ask))) (λ n. subst (λ (z : ℕ). StopCause key spent z (total asks (set views id w))) (sym (later n)) (more_asks key spent stop (total asks views) (total asks (set views id w)) (omega (arith, a)) r.cause)))
    (h.0, (λ _. set_now), h.2, λ _. some_ask)

-- the word has one of three values
pub stop_low : (key : About) (spent stop asked : ℕ) → StopCause key spent stop asked → stop < 3
stop_low key spent stop asked c = ⊎_elim (λ z. omega (arith, z)) (λ z. ⊎_elim (λ y. let a = y.0 in omega (arith, a)) (λ y. let a = y.0 in omega (arith, a)) z) c

pub limit_found : (key : About) (spent stop asked : ℕ) → StopCause key spent stop asked → stop ≡ 1 → key.limit < spent
limit_found key spent stop asked c e = ⊎_elim (λ z. absurd (omega (arith, z, e))) (λ z. ⊎_elim (λ y. y.1) (λ y. let a = y.0 in absurd (omega (arith, a, e))) z) c

pub memory_found : (key : About) (spent stop asked : ℕ) → StopCause key spent stop asked → stop ≡ 2 → 0 < asked
memory_found key spent stop asked c e = ⊎_elim (λ z. absurd (omega (arith, z, e))) (λ z. ⊎_elim (λ y. let a = y.0 in absurd (omega (arith, a, e))) (λ y. y.1) z) c

still : (key : About) (spent stop asked : ℕ) (asked' : ℕ) → asked' ≡ asked → StopCause key spent stop asked → StopCause key spent stop asked'
still key spent stop asked asked' e c = subst (StopCause key spent stop) (sym e) c

pub spent_unset : (key : About) (work spent stop : ℕ) (views : List View) (id : ℕ) (v : View) → KeepsSpent key work spent stop views → get_elem? views id ≡ some v → KeepsSpent key work spent stop (set views id (unset_view v))
spent_unset key work spent stop views id v r at = let w : View = unset_view v in let a : total asks (set views id w) ≡ total asks views = total_same asks views id v w at refl in let h = r.each id v at in
    stops key work spent stop stop views id v w r at refl (omega arith) (λ z. z) (still key spent stop (total asks views) (total asks (set views id w)) a r.cause) (h.0, h.1, h.2, λ z. let b = h.3 z in omega (arith, a, b))

pub spent_found_limit : (key : About) (work spent stop : ℕ) (views : List View) (id : ℕ) (v : View) → KeepsSpent key work spent stop views → get_elem? views id ≡ some v → stop ≡ 1 → KeepsSpent key work spent stop (set views id (found_limit_view v))
spent_found_limit key work spent stop views id v r at e = let w : View = found_limit_view v in let a : total asks (set views id w) ≡ total asks views = total_same asks views id v w at refl in let h = r.each id v at in
    stops key work spent stop stop views id v w r at refl (omega arith) (λ z. z) (still key spent stop (total asks views) (total asks (set views id w)) a r.cause)
    (h.0, (λ _ z. absurd (omega (arith, e, z))), (λ _. limit_found key spent stop (total asks views) r.cause e), λ z. let b = h.3 z in omega (arith, a, b))

pub spent_found_memory : (key : About) (work spent stop : ℕ) (views : List View) (id : ℕ) (v : View) → KeepsSpent key work spent stop views → get_elem? views id ≡ some v → stop ≡ 2 → KeepsSpent key work spent stop (set views id (found_memory_view v))
spent_found_memory key work spent stop views id v r at e = let w : View = found_memory_view v in let a : total asks (set views id w) ≡ total asks views = total_same asks views id v w at refl in let h = r.each id v at in
    stops key work spent stop stop views id v w r at refl (omega arith) (λ z. z) (still key spent stop (total asks views) (total asks (set views id w)) a r.cause)
    (h.0, (λ _ z. absurd (omega (arith, e, z))), h.2, λ _. let b = memory_found key spent stop (total asks views) r.cause e in omega (arith, a, b))

pub spent_split : (key : About) (work spent stop : ℕ) (views : List View) (id : ℕ) (v : View) → KeepsSpent key work spent stop views → get_elem? views id ≡ some v → KeepsSpent key work spent stop (set views id (left v) ++ right v ∷ [])
spent_split key work spent stop views id v r at = let vs = set views id (left v) ++ right v ∷ [] in let a : total asks vs ≡ total asks views = (let s = total_split asks views id v (left v) (right v) at in omega (arith, s)) in record {
  sum = let s = total_split (λ (u : View). u.uncounted) views id v (left v) (right v) at in let o = r.sum in omega (arith, s, o);
  cause = still key spent stop (total asks views) (total asks vs) a r.cause;
  each = subst (λ (z : ℕ). Each (StopTrue key spent stop z) vs) (sym a) (each_split (StopTrue key spent stop (total asks views)) views id (left v) (right v) (r.each id v at)
      (omega arith, (λ z. absurd (omega (arith, z))), (λ z. absurd (omega (arith, z))), λ z. absurd (omega (arith, z))) r.each);
}

pub spent_join : (key : About) (work spent stop : ℕ) (views : List View) (id other : ℕ) (v w : View) → KeepsSpent key work spent stop views → get_elem? views id ≡ some v → get_elem? views other ≡ some w → get_elem? (set views id (both v w)) other ≡ some w
    → KeepsSpent key work spent stop (set (set views id (both v w)) other spent_view)
spent_join key work spent stop views id other v w r at was there = let vs = set (set views id (both v w)) other spent_view in let h = r.each id v at in let g = r.each other w was in
    let a : total asks vs ≡ total asks views = total_join asks views id other v w (both v w) spent_view at there (omega arith) in record {
      sum = let s = total_join (λ (u : View). u.uncounted) views id other v w (both v w) spent_view at there (omega arith) in let o = r.sum in omega (arith, s, o);
      cause = still key spent stop (total asks views) (total asks vs) a r.cause;
      each = subst (λ (z : ℕ). Each (StopTrue key spent stop z) vs) (sym a) (each_join (StopTrue key spent stop (total asks views)) views id other (both v w) spent_view (
        (let x = h.0 in let y = g.0 in omega (arith, x, y)),
        (λ z. dite (ℕ_discrete (calls v.stop) 0) (λ e. g.1 (omega (arith, e, z))) (λ n. h.1 (omega (arith, n)))),
        (λ z. dite (ℕ_discrete v.stop.found_limit 0) (λ e. g.2 (omega (arith, e, z))) (λ n. h.2 (omega (arith, n)))),
        λ z. dite (ℕ_discrete v.stop.found_memory 0) (λ e. g.3 (omega (arith, e, z))) (λ n. h.3 (omega (arith, n))),
      )
          (omega arith, (λ z. absurd (omega (arith, z))), (λ z. absurd (omega (arith, z))), λ z. absurd (omega (arith, z))) r.each);
    }
