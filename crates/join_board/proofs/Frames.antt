-- A step that leaves alone what a group reads passes the group unchanged.
use Rattle.std.proofs.Common.{◌≡◌, ◌≢◌, ℕ, ◌+◌, ◌<◌, List, get_or, set, sym, ap, ◌∙◌, subst, arith, Option, cond, eqb, length-set, get_or-set_other}
use mathlib.Core.Option.{Option as Maybe, some}
use lib.ListN.{get_elem?}
use Rattle.join_board.specs.Entries.{Entry}
use Rattle.join_board.specs.declared.view.About.{About}
use Rattle.join_board.specs.declared.view.View.{View}
use Rattle.join_board.specs.declared.view.Stop.{Stop}
use Rattle.task_state.specs.Sums.{total}
use Rattle.join_board.specs.Logs.{Each}
use Rattle.join_board.specs.Rule.{word_of, SeatTrue, KeepsSeats, has, HandTrue, KeepsHands, SeenTrue, KeepsSeen, LiveTrue, KeepsLive, asks, StopTrue, StopCause, CallsTrue, KeepsSpent, KeepsParked}
use Rattle.task_state.proofs.Sums.{total_same, each_set}

pub each_one : (F : View → Type 0) (views : List View) (id : ℕ) (v w : View) → get_elem? views id ≡ some v → (F v → F w) → Each F views → Each F (set views id w)
each_one F views id v w at go h = each_set (λ _ u. F u) views id w (go (h id v at)) (λ j u _ e. h j u e)

pub seats_frame : (key : About) (work : ℕ) (views : List View) (id : ℕ) (v w : View) → get_elem? views id ≡ some v → KeepsSeats key work views
    → (SeatTrue key v → SeatTrue key w) → w.own ≡ v.own → w.seats ≡ v.seats → KeepsSeats key work (set views id w)
seats_frame key work views id v w at r go own seats = record {
  each = each_one (SeatTrue key) views id v w at go r.each;
  own = total_same (λ u. u.own) views id v w at own ∙ r.own;
  seats = total_same (λ u. u.seats) views id v w at seats ∙ r.seats;
  few = r.few;
}

-- the words of the shards stand
pub hands_frame : (shards : List (List Entry)) (words : List ℕ) (homes : List (Maybe (Option (List Entry)))) (views : List View) (id i n : ℕ) (v w : View) → get_elem? views id ≡ some v → KeepsHands shards words homes views
    → ((k : ℕ) → k < 64 → word_of k ≢ i) → (HandTrue shards v → HandTrue shards w) → w.hand.hand ≡ v.hand.hand → KeepsHands shards (set words i n) homes (set views id w)
hands_frame shards words homes views id i n v w at r apart go hand = let same : (k : ℕ) → k < 64 → get_or (set words i n) (word_of k) 0 ≡ get_or words (word_of k) 0 = λ k l. get_or-set_other words i (word_of k) n 0 (apart k l) in record {
  wide = length-set words i n ∙ r.wide;
  low = λ k l. subst (λ (z : ℕ). z < 2) (sym (same k l)) (r.low k l);
  hands = λ k l. total_same (has k) views id v w at (ap (λ (z : ℕ). cond (eqb z (k + 1)) 1 0) hand) ∙ (r.hands k l ∙ sym (same k l));
  home = λ k l z. r.home k l (sym (same k l) ∙ z);
  each = each_one (HandTrue shards) views id v w at go r.each;
}

pub seen_frame : (key : About) (shards : List (List Entry)) (views : List View) (id : ℕ) (v w : View) → get_elem? views id ≡ some v → KeepsSeen key shards views → (SeenTrue shards v → SeenTrue shards w) → KeepsSeen key shards (set views id w)
seen_frame key shards views id v w at r go = record { each = each_one (SeenTrue shards) views id v w at go r.each; rooted = r.rooted }

pub live_frame : (alive live live' : ℕ) (views : List View) (id : ℕ) (v w : View) → get_elem? views id ≡ some v → KeepsLive alive live views → live' ≡ live
    → (LiveTrue alive v → LiveTrue alive w) → w.live.ahead ≡ v.live.ahead → w.live.behind ≡ v.live.behind → KeepsLive alive live' (set views id w)
live_frame alive live live' views id v w at r same go ahead behind = record {
  count = let a = total_same (λ (u : View). u.live.ahead) views id v w at ahead in let b = total_same (λ (u : View). u.live.behind) views id v w at behind in let c = r.count in omega arith;
  each = each_one (LiveTrue alive) views id v w at go r.each;
}

pub spent_frame : (key : About) (work spent stop spent' stop' : ℕ) (views : List View) (id : ℕ) (v w : View) → get_elem? views id ≡ some v → KeepsSpent key work spent stop views → spent' ≡ spent → stop' ≡ stop
    → w.uncounted ≡ v.uncounted → w.stop ≡ v.stop → KeepsSpent key work spent' stop' (set views id w)
spent_frame key work spent stop spent' stop' views id v w at r same here uncounted stops =
    let a : total asks (set views id w) ≡ total asks views = total_same asks views id v w at (λ i. (stops i).asked_memory) in
    subst (λ (z : ℕ × ℕ). KeepsSpent key work z.0 z.1 (set views id w)) (λ i. (sym same i, sym here i)) (record {
      sum = ap (λ (z : ℕ). spent + z) (total_same (λ u. u.uncounted) views id v w at uncounted) ∙ r.sum;
      cause = subst (λ (z : ℕ). StopCause key spent stop z) (sym a) r.cause;
      each = subst (λ (z : ℕ). Each (StopTrue key spent stop z) (set views id w)) (sym a) (each_one (StopTrue key spent stop (total asks views)) views id v w at
          (subst (λ (x : Stop). CallsTrue key spent stop (total asks views) x) (sym stops)) r.each);
    })

pub parked_frame : (key : About) (shards : List (List Entry)) (views : List View) (id : ℕ) (v w : View) → get_elem? views id ≡ some v → KeepsParked key shards views
    → w.keys.parked ≡ v.keys.parked → w.keys.handed ≡ v.keys.handed → KeepsParked key shards (set views id w)
parked_frame key shards views id v w at r parked handed = record {
  balance = λ h. let a = total_same (λ (u : View). total h u.keys.parked) views id v w at (ap (total h) parked) in let b = total_same (λ (u : View). total h u.keys.handed) views id v w at (ap (total h) handed) in let c = r.balance h in omega arith;
  waits = r.waits;
}
