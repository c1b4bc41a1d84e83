-- Once a seat stands for all seats, every shard is at home.
use Rattle.std.proofs.Common.{◌≡◌, ℕ, ◌+◌, ◌<◌, List, [], ◌∷◌, length, get_or, sym, ap, ◌∙◌, subst, arith, Option, Some, Bool, false, ◌++◌, refl, set, length-set, get_or-set_same, get_or-set_other}
use mathlib.Core.Logic.{dite}
use mathlib.Core.Option.{some, some-injective}
use native.Mathlib.Decide.{ℕ_discrete, dec_lt}
use lib.ListN.{get_elem?, get_or-append}
use lib.Seq.{get_or-append_seam}
use Rattle.std.proofs.lemmas.List.{get_or_past}
use Rattle.atomic_table.specs.Table.{State, Final, Seen}
use Rattle.join_board.specs.Entries.{Entry}
use Rattle.join_board.specs.Jobs.{the_job}
use Rattle.join_board.specs.declared.view.About.{About}
use Rattle.join_board.specs.declared.view.View.{View}
use Rattle.task_state.specs.Sums.{total}
use Rattle.join_board.specs.Logs.{shard_at, HasRoots}
use Rattle.join_board.specs.Inside.Views.{spent_view}
use Rattle.join_board.specs.Rule.{has, KeepsLogs, Keeps, asks}
use Rattle.core_steps.specs.Config.{Thread}
use Rattle.join_board.specs.Close.{Contains}
use Rattle.task_state.proofs.Sums.{total_two, total_at, total_zero, total_set, each_set}
use Rattle.join_board.proofs.Hands.{has_not}

module _ (key : About) where
  no_hand : (s : State (Option (List Entry)) View) (r : Keeps key s) (id : ℕ) (v : View) → get_elem? s.views id ≡ some v → v.hand.hand ≡ 0 → v.seats ≡ key.opened → (k : ℕ) → total (has k) s.views ≡ 0
  no_hand s r id v at idle all k = total_zero (has k) s.views (λ j u e. dite (ℕ_discrete u.hand.hand (k + 1))
      (λ out. let share = ((r.hands.each j u e) k out).2 in absurd (dite (ℕ_discrete j id)
      (λ same. let is : u ≡ v = some-injective u v (sym e ∙ (ap (get_elem? s.views) same ∙ at)) in let h : u.hand.hand ≡ v.hand.hand = ap (λ (y : View). y.hand.hand) is in omega (arith, h, out, idle))
      (λ other. let two = total_two (λ (y : View). y.seats) s.views j id u v other e at in let t = r.seats.seats in omega (arith, two, t, share, all))))
      (λ n. has_not u k n))

  -- and no other view has asked for memory's stop
  only_asks : (s : State (Option (List Entry)) View) (r : Keeps key s) (id : ℕ) (v : View) → get_elem? s.views id ≡ some v → v.seats ≡ key.opened → total asks s.views ≡ asks v
  only_asks s r id v at all = let gone = total_zero asks (set s.views id spent_view) (each_set (λ _ u. asks u ≡ 0) s.views id spent_view refl
      (λ j u other e. (r.seats.each j u e).2 (let two = total_two (λ (y : View). y.seats) s.views j id u v other e at in let t = r.seats.seats in omega (arith, two, t, all)))) in
      let sum = total_set asks s.views id v spent_view at in omega (arith, sum, gone)

  pub closing : (id : ℕ) (v : View) (ws : List ℕ) (xs : List (Option (List Entry))) → v.hand.hand ≡ 0 → v.seats ≡ key.opened → Final (Seen (Keeps key) id v) ws xs
      → (shards : List (List Entry)) × ((c : List Thread) × KeepsLogs key shards c × Contains key c shards v × HasRoots (the_job key) shards) × ((k : ℕ) → k < 64 → get_elem? xs k ≡ some (Some (shard_at shards k))) × (0 < v.stop.found_memory → 0 < v.stop.asked_memory)
  closing id v ws xs idle all f = let s = f.0 in let r = f.1.0 in let at = f.1.1 in let work = r.logs.work in (
    r.shards,
    (
      r.config,
      r.logs,
      (
        (let o = total_at (λ (y : View). y.own) s.views id v at in let t = r.seats.own in omega (arith, o, t, work)),
        r.seen.each id v at,
        (r.live.each id v at).1,
        (λ z. let l = (r.spent.each id v at).2 z in let t = r.spent.sum in omega (arith, l, t, work)),
      ),
      r.seen.rooted,
    ),
    (λ k l. f.4 k (Some (shard_at r.shards k)) (r.hands.home k l (sym (r.hands.hands k l) ∙ no_hand s r id v at idle all k))),
    λ z. let found = (r.spent.each id v at).3 z in let asked = only_asks s r id v at all in omega (arith, found, asked),
  )

pub filled_next : (fs : List Bool) (i k : ℕ) → ((j : ℕ) → j < i → get_or fs j false ≡ false) → k < i + 1 → get_or (set fs i false) k false ≡ false
filled_next fs i k before l = dite (ℕ_discrete k i) (λ e. dite (dec_lt i (length fs))
    (λ h. subst (λ (z : ℕ). get_or (set fs i false) z false ≡ false) (sym e) (get_or-set_same fs i false false h))
    (λ h. subst (λ (z : ℕ). get_or (set fs i false) z false ≡ false) (sym e) (get_or_past (set fs i false) i false (let z = length-set fs i false in omega arith))))
    (λ n. get_or-set_other fs i k false false n ∙ before k (omega arith))

pub put_next : (xs : List (Option (List Entry))) (room room' : List (List Entry)) (i : ℕ) (x : List Entry) → length room ≡ i → room' ≡ room ++ x ∷ []
    → ((k : ℕ) → k < i → get_elem? xs k ≡ some (Some (shard_at room k))) → get_elem? xs i ≡ some (Some x) → (k : ℕ) → k < i + 1 → get_elem? xs k ≡ some (Some (shard_at room' k))
put_next xs room room' i x n is before here k l = subst (λ (r : List (List Entry)). get_elem? xs k ≡ some (Some (shard_at r k))) (sym is) (dite (ℕ_discrete k i)
    (λ e. subst (λ (z : ℕ). get_elem? xs z ≡ some (Some (shard_at (room ++ x ∷ []) z))) (sym e) (here ∙ ap (λ (y : List Entry). some (Some y)) (sym (subst (λ (z : ℕ). get_or (room ++ x ∷ []) z [] ≡ x) n (get_or-append_seam room x [] [])))))
    (λ ne. before k (omega arith) ∙ ap (λ (y : List Entry). some (Some y)) (sym (get_or-append room (x ∷ []) [] k (omega arith)))))
