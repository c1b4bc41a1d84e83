-- What a seat keeps over calls.
use Rattle.std.proofs.Common.{◌≡◌, ℕ, zero, suc, ◌<◌, ◌≤◌, List, [], ◌∷◌, ◌++◌, length, sym, refl, ap, ◌∙◌, subst, append_assoc, append-nil, Bool}
use mathlib.Core.Option.{some, some-ne-none}
use lib.ListN.{get_elem?}
use Rattle.trace_book.specs.Segments.{SegmentFields}
use Rattle.task_state.specs.Segments.{IsSegmentOf}
use Rattle.join_board.specs.declared.owned.Board.{Board}
use Rattle.join_board.specs.declared.owned.BoardSeat.{BoardSeat}
use Rattle.join_board.specs.declared.view.About.{About}
use Rattle.join_board.specs.declared.view.Sight.{Sight}
use Rattle.join_board.specs.declared.view.View.{View}
use Rattle.join_board.specs.Calls.{CanCommit, HasSeen, SameSeat}
use Rattle.join_board.specs.Handles.{knows, IsSeatOf}
use Rattle.join_board.specs.Jobs.{the_job}
use Rattle.join_board.specs.Threads.{Spawns}
use Rattle.join_board.specs.Views.{HasSeenEnd, HasSeenSpawn}
use Rattle.join_board.proofs.Laws.{all_joins}
use Rattle.steal_runtime.specs.Inside.Seats.{Sits, Stays}

pub same_refl : (v : View) → SameSeat v v
same_refl v = (refl, refl, ([], sym (append-nil v.seen)))

pub same_trans : (u v w : View) → SameSeat u v → SameSeat v w → SameSeat u w
same_trans u v w a b = (b.0 ∙ a.0, b.1 ∙ a.1, (a.2.0 ++ b.2.0, b.2.1 ∙ (ap (λ xs. xs ++ b.2.0) a.2.1 ∙ append_assoc u.seen a.2.0 b.2.0)))

pub stays : (b : Board) (s t : BoardSeat) → Sits b s → IsSeatOf b t → SameSeat (knows s) (knows t) → Stays b s t
stays b s t sits of same = ((of, same.0 ∙ sits.1, same.1 ∙ sits.2), same)

pub stays_on : (b : Board) (s t u : BoardSeat) → Stays b s t → Stays b t u → Stays b s u
stays_on b s t u x y = (y.0, same_trans (knows s) (knows t) (knows u) x.1 y.1)

pub at_left : {A : Type 0} (xs ys : List A) (i : ℕ) (a : A) → get_elem? xs i ≡ some a → get_elem? (xs ++ ys) i ≡ some a
at_left [] ys i a e = absurd (some-ne-none a (sym e))
at_left (x ∷ xs) ys zero a e = e
at_left (x ∷ xs) ys (suc i) a e = at_left xs ys i a e

pub sees : (v w : View) → SameSeat v w → (i : ℕ) (t : Sight) → get_elem? v.seen i ≡ some t → get_elem? w.seen i ≡ some t
sees v w same i t at = subst (λ (xs : List Sight). get_elem? xs i ≡ some t) (sym same.2.1) (at_left v.seen same.2.0 i t at)

pub seen_end : (v w : View) → SameSeat v w → (b : List ℕ) → HasSeenEnd v b → HasSeenEnd w b
seen_end v w same b h = (h.0, h.1, sees v w same h.0 h.1 h.2, h.3, h.4)

pub has_seen : (v w : View) → SameSeat v w → (p : List ℕ) (n : ℕ) (b : Bool) → HasSeen v p n b → HasSeen w p n b
has_seen v w same p n b h = (h.0, h.1, sees v w same h.0 h.1 h.2, h.3, h.4, h.5)

pub seen_spawn : (v w : View) → SameSeat v w → (p : List ℕ) → HasSeenSpawn v p → HasSeenSpawn w p
seen_spawn v w same p h = (h.0, h.1, sees v w same h.0 h.1 h.2, subst (λ (a : About). Spawns (the_job a) h.1.path h.1.length p) (sym same.0) h.3)

pub can_commit : (v w : View) → SameSeat v w → (s : SegmentFields) → CanCommit v s → CanCommit w s
can_commit v w same s can = (
  subst (λ (a : About). IsSegmentOf (the_job a) s) (sym same.0) can.0,
  subst (λ (a : About). length s.events ≤ a.quantum) (sym same.0) can.1,
  subst (λ (a : About). s.worker < a.opened) (sym same.0) can.2,
  all_joins (HasSeenEnd v) (HasSeenEnd w) (seen_end v w same) s.events can.3,
)
