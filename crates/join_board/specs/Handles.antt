-- A seat of a board, and what it knows.
use Rattle.std.specs.Prelude.{◌≡◌}
use Rattle.join_board.specs.declared.owned.Board.{Board}
use Rattle.join_board.specs.declared.owned.BoardSeat.{BoardSeat}
use Rattle.join_board.specs.declared.view.About.{About}
use Rattle.join_board.specs.declared.view.View.{View}

-- what never changes about a board
abbrev pub about : Board → About
about b = b.table.shared.key

-- what a seat knows
abbrev pub knows : BoardSeat → View
knows s = s.seat.me.0

-- the seat is one of this board
abbrev pub IsSeatOf : Board → BoardSeat → Type 0
IsSeatOf b s = s.seat.table_id ≡ b.table.shared.table_id
