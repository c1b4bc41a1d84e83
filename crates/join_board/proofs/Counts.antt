-- The sums over the views: own steps and seats, live threads, the total and the stop, and keys.
use Rattle.std.proofs.Common.{◌≡◌, ℕ, ◌+◌, ◌-◌, ◌*◌, ◌^◌, ◌<◌, ◌≤◌, List, [], ◌∷◌, ◌++◌, set, sym, refl, ◌∙◌, subst, ⊎_elim, inl, inr, arith, add-mul, mul-le-mul_right}
use mathlib.Core.Logic.{dite}
use mathlib.Core.Option.{some}
use native.Mathlib.Decide.{ℕ_discrete}
use lib.ListN.{get_elem?}
use Rattle.join_board.specs.Entries.{Entry}
use Rattle.join_board.specs.declared.view.About.{About}
use Rattle.join_board.specs.declared.view.View.{View}
use Rattle.join_board.specs.declared.view.Stop.{Stop}
use Rattle.task_state.specs.Sums.{total}
use Rattle.join_board.specs.Logs.{Each, size, spawned, finished}
use Rattle.join_board.specs.Inside.Views.{gave_view, left, right, both, spent_view, added_view, subtracted_view, over_view, counted_view}
use Rattle.join_board.specs.Rule.{SeatTrue, KeepsSeats, LiveTrue, KeepsLive, asks, CallsTrue, StopTrue, StopCause, KeepsSpent}
use Rattle.task_state.proofs.Sums.{total_set, total_same, total_at, total_le, total_mul, total_split, total_join, each_set, each_split, each_join}
use Rattle.join_board.proofs.Frames.{each_one}

-- own steps and seats
pub seats_gave : (key : About) (work work' : ℕ) (views : List View) (id : ℕ) (v : View) (x : List Entry) → KeepsSeats key work views → get_elem? views id ≡ some v → work' ≡ work + (size x - size v.hand.copy)
    → v.own + (size x - size v.hand.copy) ≤ v.seats * 2 ^ 59 → KeepsSeats key work' (set views id (gave_view v x))
seats_gave key work work' views id v x r at grew room = let w : View = gave_view v x in record {
  each = each_one (SeatTrue key) views id v w at (λ h. (h.0, room, h.2)) r.each;
  own = let a = total_set (λ (u : View). u.own) views id v w at in let o = r.own in omega (arith, a, o, grew);
  seats = total_same (λ u. u.seats) views id v w at refl ∙ r.seats;
  few = r.few;
}

pub seats_split : (key : About) (work : ℕ) (views : List View) (id : ℕ) (v : View) → KeepsSeats key work views → get_elem? views id ≡ some v → v.own ≡ 0 → 1 < v.seats → KeepsSeats key work (set views id (left v) ++ right v ∷ [])
seats_split key work views id v r at bare more = let mine = r.each id v at in record {
  each = each_split (SeatTrue key) views id (left v) (right v) ((λ _. mine.0 (omega (arith, more))), omega (arith, bare), λ z. absurd (omega (arith, z, more))) ((λ _. mine.0 (omega (arith, more))), omega arith, λ z. absurd (omega (arith, z))) r.each;
  own = let a = total_split (λ (u : View). u.own) views id v (left v) (right v) at in let o = r.own in omega (arith, a, o);
  seats = let a = total_split (λ (u : View). u.seats) views id v (left v) (right v) at in let o = r.seats in omega (arith, a, o, more);
  few = r.few;
}

pub seats_join : (key : About) (work : ℕ) (views : List View) (id other : ℕ) (v w : View) → KeepsSeats key work views → get_elem? views id ≡ some v → get_elem? views other ≡ some w → get_elem? (set views id (both v w)) other ≡ some w → 0 < v.seats
    → KeepsSeats key work (set (set views id (both v w)) other spent_view)
seats_join key work views id other v w r at was there share = let mine = r.each id v at in let its = r.each other w was in record {
  each = each_join (SeatTrue key) views id other (both v w) spent_view ((λ _. mine.0 share), (let a : (v.seats + w.seats) * 2 ^ 59 ≡ v.seats * 2 ^ 59 + w.seats * 2 ^ 59 = add-mul v.seats w.seats (2 ^ 59) in omega (arith, a, mine.1, its.1)), λ z. absurd (omega (arith, z, share)))
      ((λ z. absurd (omega (arith, z))), omega arith, λ _. refl) r.each;
  own = total_join (λ (u : View). u.own) views id other v w (both v w) spent_view at there (omega arith) ∙ r.own;
  seats = total_join (λ (u : View). u.seats) views id other v w (both v w) spent_view at there (omega arith) ∙ r.seats;
  few = r.few;
}

-- no sum wraps
pub few_steps : (key : About) (work : ℕ) (views : List View) → KeepsSeats key work views → work ≤ 2 ^ 63
few_steps key work views r = let own : total (λ (u : View). u.own) views ≤ total (λ (u : View). u.seats * 2 ^ 59) views = total_le (λ u. u.own) (λ u. u.seats * 2 ^ 59) views (λ j u e. (r.each j u e).1) in
    let mul = total_mul (λ (u : View). u.seats) (2 ^ 59) views in let n : ℕ = total (λ (u : View). u.seats) views in let most : n * 2 ^ 59 ≤ 16 * 2 ^ 59 = mul-le-mul_right (2 ^ 59) (let s = r.seats in let f = r.few in let q : n ≤ 16 = omega (arith, s, f) in q) in
    let o = r.own in omega (arith, own, mul, most, o)

-- live threads
pub live_gave : (alive alive' live live' : ℕ) (views : List View) (id : ℕ) (v : View) (x : List Entry) → KeepsLive alive live views → get_elem? views id ≡ some v → live' ≡ live
    → alive' + (finished x - finished v.hand.copy) ≡ alive + (spawned x - spawned v.hand.copy) → (alive ≡ 0 → alive' ≡ 0) → spawned x - spawned v.hand.copy ≤ v.live.ahead
    → v.live.behind + (finished x - finished v.hand.copy) + (v.live.ahead - (spawned x - spawned v.hand.copy)) ≤ v.seats → KeepsLive alive' live' (set views id (gave_view v x))
live_gave alive alive' live live' views id v x r at same count over ahead busy = let w : View = gave_view v x in record {
  count = let a = total_set (λ (u : View). u.live.ahead) views id v w at in let b = total_set (λ (u : View). u.live.behind) views id v w at in let c = r.count in omega (arith, a, b, c, same, count, ahead);
  each = each_set (λ _ u. LiveTrue alive' u) views id w ((omega (arith, busy)), λ h. over ((r.each id v at).1 h)) (λ j u _ e. let f = r.each j u e in (f.0, λ h. over (f.1 h)));
}

pub live_added : (alive live live' : ℕ) (views : List View) (id : ℕ) (v : View) → KeepsLive alive live views → get_elem? views id ≡ some v → live' ≡ live + 1 → v.live.ahead ≡ 0 → v.live.behind ≡ 0 → 0 < v.seats
    → KeepsLive alive live' (set views id (added_view v))
live_added alive live live' views id v r at up idle still share = let w : View = added_view v in record {
  count = let a = total_set (λ (u : View). u.live.ahead) views id v w at in let b = total_same (λ (u : View). u.live.behind) views id v w at refl in let c = r.count in omega (arith, a, b, c, up, idle);
  each = each_one (LiveTrue alive) views id v w at (λ h. ((omega (arith, still, share)), h.1)) r.each;
}

pub live_subtracted : (alive live live' : ℕ) (views : List View) (id : ℕ) (v : View) → KeepsLive alive live views → get_elem? views id ≡ some v → live' + 1 ≡ live → v.live.behind ≡ 1
    → KeepsLive alive live' (set views id (subtracted_view v))
live_subtracted alive live live' views id v r at down late = let w : View = subtracted_view v in record {
  count = let a = total_same (λ (u : View). u.live.ahead) views id v w at refl in let b = total_set (λ (u : View). u.live.behind) views id v w at in let c = r.count in omega (arith, a, b, c, down, late);
  each = each_one (LiveTrue alive) views id v w at (λ h. ((let o = h.0 in omega (arith, o)), h.1)) r.each;
}

-- a view that is behind makes the count at least 1
pub live_some : (alive live : ℕ) (views : List View) (id : ℕ) (v : View) → KeepsLive alive live views → get_elem? views id ≡ some v → v.live.behind ≤ live
live_some alive live views id v r at = let a = total_at (λ (u : View). u.live.behind) views id v at in let c = r.count in omega (arith, a, c)

pub live_over : (alive live live' : ℕ) (views : List View) (id : ℕ) (v : View) → KeepsLive alive live views → get_elem? views id ≡ some v → live' ≡ live → live ≡ 0 → KeepsLive alive live' (set views id (over_view v))
live_over alive live live' views id v r at same zero_now = let w : View = over_view v in record {
  count = let a = total_same (λ (u : View). u.live.ahead) views id v w at refl in let b = total_same (λ (u : View). u.live.behind) views id v w at refl in let c = r.count in omega (arith, a, b, c, same);
  each = each_one (LiveTrue alive) views id v w at (λ h. (h.0, λ _. let c = r.count in omega (arith, c, zero_now))) r.each;
}

pub live_split : (alive live : ℕ) (views : List View) (id : ℕ) (v : View) → KeepsLive alive live views → get_elem? views id ≡ some v → v.live.ahead ≡ 0 → v.live.behind ≡ 0 → KeepsLive alive live (set views id (left v) ++ right v ∷ [])
live_split alive live views id v r at idle still = record {
  count = let a = total_split (λ (u : View). u.live.ahead) views id v (left v) (right v) at in let b = total_split (λ (u : View). u.live.behind) views id v (left v) (right v) at in let c = r.count in omega (arith, a, b, c);
  each = each_split (LiveTrue alive) views id (left v) (right v) (omega (arith, idle, still), (r.each id v at).1) (omega arith, λ z. absurd (omega (arith, z))) r.each;
}

pub live_join : (alive live : ℕ) (views : List View) (id other : ℕ) (v w : View) → KeepsLive alive live views → get_elem? views id ≡ some v → get_elem? views other ≡ some w → get_elem? (set views id (both v w)) other ≡ some w
    → KeepsLive alive live (set (set views id (both v w)) other spent_view)
live_join alive live views id other v w r at was there = let mine = r.each id v at in let its = r.each other w was in record {
  count = let a = total_join (λ (u : View). u.live.ahead) views id other v w (both v w) spent_view at there (omega arith) in let b = total_join (λ (u : View). u.live.behind) views id other v w (both v w) spent_view at there (omega arith) in let c = r.count in omega (arith, a, b, c);
  each = each_join (LiveTrue alive) views id other (both v w) spent_view ((let a = mine.0 in let b = its.0 in omega (arith, a, b)), λ h. dite (ℕ_discrete v.live.over 0) (λ z. its.1 (omega (arith, h, z))) (λ n. mine.1 (omega arith)))
      (omega arith, λ z. absurd (omega (arith, z))) r.each;
}

-- the total and the stop
pub spent_gave : (key : About) (work work' spent stop spent' stop' : ℕ) (views : List View) (id : ℕ) (v : View) (x : List Entry) → KeepsSpent key work spent stop views → get_elem? views id ≡ some v → spent' ≡ spent → stop' ≡ stop
    → work' ≡ work + (size x - size v.hand.copy) → KeepsSpent key work' spent' stop' (set views id (gave_view v x))
spent_gave key work work' spent stop spent' stop' views id v x r at same here grew = let w : View = gave_view v x in let a : total asks (set views id w) ≡ total asks views = total_same asks views id v w at refl in
    subst (λ (z : ℕ × ℕ). KeepsSpent key work' z.0 z.1 (set views id w)) (λ i. (sym same i, sym here i)) (record {
      sum = let s = total_set (λ (u : View). u.uncounted) views id v w at in let o = r.sum in omega (arith, s, o, grew);
      cause = subst (StopCause key spent stop) (sym a) r.cause;
      each = subst (λ (z : ℕ). Each (StopTrue key spent stop z) (set views id w)) (sym a) (each_one (StopTrue key spent stop (total asks views)) views id v w at (λ h. h) r.each);
    })

pub spent_counted : (key : About) (work spent stop spent' stop' : ℕ) (views : List View) (id : ℕ) (v : View) → KeepsSpent key work spent stop views → get_elem? views id ≡ some v → spent' ≡ spent + v.uncounted → stop' ≡ stop
    → KeepsSpent key work spent' stop' (set views id (counted_view v spent))
spent_counted key work spent stop spent' stop' views id v r at up here = let w : View = counted_view v spent in let a : total asks (set views id w) ≡ total asks views = total_same asks views id v w at refl in
    let later : (t : Stop) → CallsTrue key spent stop (total asks views) t → CallsTrue key (spent + v.uncounted) stop (total asks views) t = λ t h. (let m = h.0 in omega (arith, m), h.1, (λ z. let b = h.2 z in omega (arith, b)), h.3) in
    subst (λ (z : ℕ × ℕ). KeepsSpent key work z.0 z.1 (set views id w)) (λ i. (sym up i, sym here i)) (record {
      sum = let s = total_set (λ (u : View). u.uncounted) views id v w at in let o = r.sum in omega (arith, s, o);
      cause = subst (StopCause key (spent + v.uncounted) stop) (sym a) (⊎_elim (λ z. inl z) (λ z. inr (⊎_elim (λ y. inl (y.0, (let b = y.1 in omega (arith, b)))) (λ y. inr y) z)) r.cause);
      each = subst (λ (z : ℕ). Each (StopTrue key (spent + v.uncounted) stop z) (set views id w)) (sym a)
          (each_set (λ _ u. StopTrue key (spent + v.uncounted) stop (total asks views) u) views id w (let h = later v.stop (r.each id v at) in (omega arith, h.1, h.2, h.3)) (λ j u _ e. later u.stop (r.each j u e)));
    })
