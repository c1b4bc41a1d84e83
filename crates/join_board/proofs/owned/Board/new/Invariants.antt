use Rattle.std.proofs.Common.{◌≡◌, ◌+◌, ◌-◌, ◌≤◌, vec_len, vec_capacity}
use Rattle.join_board.specs.Logs.{Each}
use Rattle.join_board.specs.Views.{opened_view}
use Rattle.join_board.specs.Handles.{knows, IsSeatOf}
use Rattle.join_board.specs.declared.owned.BoardSeat.{BoardSeat}
use Rattle.join_board.proofs.owned.Board.new.Given as goal

abbrev pub invariant-loop-i : goal.invariant-loop-i
invariant-loop-i l = IsSeatOf l.board l.first × (knows l.first ≡ opened_view l.board.table.shared.key (l.fn.seats + 1 - l.i)) × (l.fn.seats ≤ vec_capacity l.all) × (vec_len l.all + 1 ≡ l.i)
    × Each (λ (s : BoardSeat). IsSeatOf l.board s × (knows s ≡ opened_view l.board.table.shared.key 1)) l.all.items
