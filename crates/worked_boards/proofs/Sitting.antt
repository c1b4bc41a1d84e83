-- Seats over calls.
use Rattle.std.proofs.Common.{◌≡◌, ℕ, ◌<◌, List, [], ◌∷◌, length, false, ⊎_elim, ◌⊎◌, arith, ◌∙◌, sym, refl, subst, ap}
use mathlib.Core.Option.{some}
use lib.ListN.{get_elem?}
use Rattle.std.specs.List.{All, AllByRecursion}
use Rattle.std.proofs.lemmas.List.Elements.{All-contains, All-from_recursion, recursion_from_All}
use Rattle.core_steps.specs.Steps.{Job}
use Rattle.join_board.specs.declared.owned.Board.{Board}
use Rattle.join_board.specs.declared.owned.BoardSeat.{BoardSeat}
use Rattle.join_board.specs.declared.view.About.{About}
use Rattle.join_board.specs.declared.view.View.{View}
use Rattle.join_board.specs.Calls.{HasSeen, LengthIn, NotListed, SameSeat}
use Rattle.join_board.specs.Entries.{Entry}
use Rattle.join_board.specs.Handles.{about, knows, IsSeatOf}
use Rattle.join_board.specs.Jobs.{the_job}
use Rattle.task_state.specs.Sums.{total}
use Rattle.join_board.specs.Logs.{Each}
use Rattle.join_board.specs.Views.{opened_view}
use Rattle.join_board.proofs.Books.{all_of}
use Rattle.join_board.proofs.Readings.{contains_at}
use Rattle.worked_boards.specs.Inside.Seats.{Sits}

pub sits_on : (job : Job) (b : Board) (s t : BoardSeat) → Sits job b s → IsSeatOf b t → SameSeat (knows s) (knows t) → Sits job b t
sits_on job b s t sits of same = (of, ap the_job same.0 ∙ sits.1, ap (λ (a : About). a.quantum) same.0 ∙ sits.2, subst (λ (a : About). 0 < a.opened) (sym same.0) sits.3, same.1 ∙ sits.4)

-- each of a list
pub all_seats : (F : BoardSeat → Type 0) (ss : List BoardSeat) → Each F ss → All F ss
all_seats F ss h = All-from_recursion F ss (all_of F ss h)

pub each_seat : (job : Job) (b : Board) (ss : List BoardSeat) → All (Sits job b) ss → Each (λ (s : BoardSeat). IsSeatOf b s) ss
each_seat job b ss h = λ i s at. (All-contains (Sits job b) ss s h (contains_at ss i s at)).0

ones : (job : Job) (b : Board) (ss : List BoardSeat) → AllByRecursion (Sits job b) ss → total (λ (s : BoardSeat). (knows s).seats) ss ≡ length ss
ones job b [] h = refl
ones job b (s ∷ ss) h = let a = h.0.4 in let r = ones job b ss h.1 in omega (arith, a, r)

pub count_seats : (job : Job) (b : Board) (ss : List BoardSeat) → All (Sits job b) ss → total (λ (s : BoardSeat). (knows s).seats) ss ≡ length ss
count_seats job b ss h = ones job b ss (recursion_from_All (Sits job b) ss h)

-- where a look finds steps there is an entry
pub has_steps : (v w : View) (p : List ℕ) (n : ℕ) → 0 < n → LengthIn w.hand.copy p n → NotListed v p w.hand.copy ⊎ HasSeen w p n false → HasSeen w p n false
has_steps v w p n more len found = ⊎_elim
    (λ (h : NotListed v p w.hand.copy). absurd (⊎_elim (λ (l : (e : Entry) × (i : ℕ) × (get_elem? w.hand.copy i ≡ some e) × (e.log.path ≡ p) × (n ≡ length e.log.events)). h.0 l.1 l.0 l.2 l.3) (λ m. let z = m.1 in omega (arith, z, more)) len))
    (λ h. h) found

-- a seat of a board that was opened
pub opened_sits : (job : Job) (b : Board) (ss : List BoardSeat) → the_job (about b) ≡ job → (about b).quantum ≡ 64 → 0 < (about b).opened
    → Each (λ (s : BoardSeat). IsSeatOf b s × (knows s ≡ opened_view (about b) 1)) ss → All (Sits job b) ss
opened_sits job b ss is quantum some_seat h = all_seats (Sits job b) ss (λ i s at. let o = h i s at in let v = o.1 in (
  o.0,
  ap (λ (u : View). the_job u.about) v ∙ is,
  ap (λ (u : View). u.about.quantum) v ∙ quantum,
  subst (λ (u : View). 0 < u.about.opened) (sym v) some_seat,
  ap (λ (u : View). u.seats) v,
))
