use Rattle.std.proofs.Common.{◌≡◌, ℕ, ◌+◌, ◌<◌, vec_len, ◌⊎◌, []}
use mathlib.Core.Option.{some}
use lib.ListN.{get_elem?}
use Rattle.task_state.specs.Sums.{total}
use Rattle.join_board.specs.Logs.{Each}
use Rattle.join_board.specs.Handles.{knows}
use Rattle.join_board.specs.Inside.Close.{Absorbed}
use Rattle.join_board.specs.declared.owned.BoardSeat.{BoardSeat}
use Rattle.join_board.proofs.close.gather.Given as goal

abbrev pub invariant-loop-other : goal.invariant-loop-other
invariant-loop-other l = (l.kept.table_id ≡ l.fn.top.table_id) × (l.kept.me.1 ≡ []) × (l.kept.me.0.hand.hand ≡ 0) × (0 < l.kept.me.0.seats)
    × (l.kept.me.0.seats + total (λ s. (knows s).seats) l.seats.items ≡ l.fn.kept.me.0.seats + total (λ s. (knows s).seats) l.fn.seats.items)
    × (l.kept.me.0.stop.asked_memory + total (λ s. (knows s).stop.asked_memory) l.seats.items ≡ l.fn.kept.me.0.stop.asked_memory + total (λ s. (knows s).stop.asked_memory) l.fn.seats.items)
    × Each (λ (s : BoardSeat). s.seat.table_id ≡ l.fn.top.table_id) l.seats.items
    × Absorbed l.fn.kept.me.0 l.kept.me.0
    × ((j : ℕ) (s : BoardSeat) → get_elem? l.fn.seats.items j ≡ some s → (get_elem? l.seats.items j ≡ some s) ⊎ Absorbed (knows s) l.kept.me.0)

abbrev pub decreases-loop-other : goal.decreases-loop-other
decreases-loop-other l = vec_len l.seats
