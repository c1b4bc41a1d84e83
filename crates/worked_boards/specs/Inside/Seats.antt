-- What the worked cases keep of seats.
use Rattle.std.specs.Prelude.{◌≡◌, ◌<◌}
use Rattle.core_steps.specs.Steps.{Job}
use Rattle.trace_book.specs.declared.segment.Segment.{Segment}
use Rattle.trace_book.specs.Segments.{read_segment}
use Rattle.join_board.specs.declared.owned.Board.{Board}
use Rattle.join_board.specs.declared.owned.BoardSeat.{BoardSeat}
use Rattle.join_board.specs.Calls.{CanCommit}
use Rattle.join_board.specs.Handles.{knows, IsSeatOf}
use Rattle.join_board.specs.Jobs.{the_job}

-- a seat of a board of the job whose quantum is 64, which stands for itself alone
abbrev pub Sits : Job → Board → BoardSeat → Type 0
Sits job b s = IsSeatOf b s × (the_job (knows s).about ≡ job) × ((knows s).about.quantum ≡ 64) × (0 < (knows s).about.opened) × ((knows s).seats ≡ 1)

-- the seat can commit the segment
abbrev pub Commits : BoardSeat → Segment → Type 0
Commits s g = CanCommit (knows s) (read_segment g)
