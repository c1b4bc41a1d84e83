-- What the seats of a closed board tell of its book.
use Rattle.std.proofs.Common.{◌≡◌, ℕ, ◌+◌, ◌<◌, ◌≤◌, List, [], ◌∷◌, ◌++◌, length, ◌⊎◌, inl, inr, sym, refl, ap, subst, arith}
use mathlib.Core.Option.{some}
use lib.ListN.{get_elem?}
use Rattle.std.specs.List.{All, AllByRecursion}
use Rattle.std.proofs.lemmas.List.Elements.{All-contains, All-from_recursion, recursion_from_All}
use Rattle.core_steps.specs.Meaning.{Over, meaning}
use Rattle.trace_book.specs.Book.{work}
use Rattle.trace_book.specs.Log.{Log}
use Rattle.join_board.specs.declared.owned.Board.{Board}
use Rattle.join_board.specs.declared.owned.BoardSeat.{BoardSeat}
use Rattle.join_board.specs.declared.view.About.{About}
use Rattle.join_board.specs.declared.view.View.{View}
use Rattle.join_board.specs.Views.{opened_view}
use Rattle.join_board.specs.Close.{Closes}
use Rattle.join_board.specs.Handles.{about, knows, IsSeatOf}
use Rattle.join_board.specs.Jobs.{the_job}
use Rattle.task_state.specs.Sums.{total}
use Rattle.join_board.specs.Logs.{Each}
use Rattle.steal_runtime.specs.Runs.{IsRun}
use Rattle.steal_runtime.specs.Inside.Seats.{Sits, SomeOver}
use Rattle.steal_runtime.proofs.Books.{is_run, over_limit}
use Rattle.join_board.proofs.Books.{all_of}
use Rattle.join_board.proofs.Readings.{contains_at}
use Rattle.steal_runtime.proofs.Seats.{at_left}

pub each_seat : (b : Board) (ss : List BoardSeat) → All (Sits b) ss → Each (λ (s : BoardSeat). IsSeatOf b s) ss
each_seat b ss h = λ i s at. (All-contains (Sits b) ss s h (contains_at ss i s at)).0

ones : (b : Board) (ss : List BoardSeat) → AllByRecursion (Sits b) ss → total (λ (s : BoardSeat). (knows s).seats) ss ≡ length ss
ones b [] h = refl
ones b (s ∷ ss) h = let a = h.0.2 in let r = ones b ss h.1 in omega (arith, a, r)

-- each stands for itself
pub all_seats : (b : Board) (ss : List BoardSeat) → All (Sits b) ss → total (λ (s : BoardSeat). (knows s).seats) ss ≡ length ss
all_seats b ss h = ones b ss (recursion_from_All (Sits b) ss h)

pub whole : (key : About) (ss : List BoardSeat) (logs : List Log) (limit : ℕ) → Closes key ss logs → SomeOver ss → work logs ≤ limit → IsRun (the_job key) key.opened key.quantum limit logs
whole key ss logs limit cl over few = let c = cl.2 in subst (IsRun (the_job key) key.opened key.quantum limit) (sym cl.1)
    (is_run key cl.0 c.0 limit c.1 ((c.2 over.0 over.1 over.2).2 over.3) (subst (λ (ls : List Log). work ls ≤ limit) cl.1 few))

pub past : (key : About) (ss : List BoardSeat) (logs : List Log) (limit : ℕ) → Closes key ss logs → limit < work logs → meaning (the_job key) limit ≡ Over
past key ss logs limit cl more = let c = cl.2 in over_limit key cl.0 c.0 limit c.1 (subst (λ (ls : List Log). limit < work ls) cl.1 more)

-- a seat more, which may have found that every thread has ended
pub some_over : (ss : List BoardSeat) (s : BoardSeat) → (SomeOver ss ⊎ (0 < (knows s).live.over)) → SomeOver (ss ++ s ∷ [])
some_over ss s (inl h) = (h.0, h.1, at_left ss (s ∷ []) h.0 h.1 h.2, h.3)
some_over ss s (inr o) = (length ss, s, at_end ss s, o)
  where
    at_end : (xs : List BoardSeat) (a : BoardSeat) → get_elem? (xs ++ a ∷ []) (length xs) ≡ some a
    at_end [] a = refl
    at_end (x ∷ xs) a = at_end xs a

-- each seat of a board that was just opened
pub opened_seats : (b : Board) (ss : List BoardSeat) → Each (λ (s : BoardSeat). IsSeatOf b s × (knows s ≡ opened_view (about b) 1)) ss → All (Sits b) ss
opened_seats b ss h = All-from_recursion (Sits b) ss (all_of (Sits b) ss (λ i s at. let k = h i s at in (k.0, ap (λ (v : View). v.about) k.1, ap (λ (v : View). v.seats) k.1)))
