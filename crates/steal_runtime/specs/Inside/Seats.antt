-- Workers at their seats of a board.
use Rattle.std.specs.Prelude.{◌≡◌, ℕ, ◌+◌, ◌<◌, List, length, true}
use mathlib.Core.Option.{some}
use lib.ListN.{get_elem?}
use Rattle.type_rules.specs.Jobs.{WithInputs}
use Rattle.core_steps.specs.Moves.{read_job}
use Rattle.trace_book.specs.Segments.{SegmentFields}
use Rattle.task_state.specs.declared.task.Task.{Task}
use Rattle.join_board.specs.declared.owned.Board.{Board}
use Rattle.join_board.specs.declared.owned.BoardSeat.{BoardSeat}
use Rattle.join_board.specs.declared.view.View.{View}
use Rattle.join_board.specs.Calls.{HasSeen, SameSeat}
use Rattle.join_board.specs.Handles.{about, knows, IsSeatOf}
use Rattle.join_board.specs.Jobs.{the_job}
use Rattle.join_board.specs.Logs.{CanWait, Each}
use Rattle.join_board.specs.Threads.{ended}
use Rattle.steal_runtime.specs.declared.parts.Duty.{Duty}
use Rattle.steal_runtime.specs.declared.parts.Left.{Left}

-- a seat of the board that stands for itself alone
abbrev pub Sits : Board → BoardSeat → Type 0
Sits b s = IsSeatOf b s × ((knows s).about ≡ about b) × ((knows s).seats ≡ 1)

-- so it is after a call, and the seat knows no less
abbrev pub Stays : Board → BoardSeat → BoardSeat → Type 0
Stays b s t = Sits b t × SameSeat (knows s) (knows t)

-- a worker can keep to these numbers at the board
abbrev pub Serves : Board → WithInputs → Duty → Type 0
Serves b job d =
    (the_job (about b) ≡ read_job job) × (d.worker < (about b).opened)
    × ((about b).quantum ≡ d.quantum) × ((about b).limit ≡ d.limit) × (0 < d.quantum)

-- a worker has left; where it says that every thread has ended its seat has found it so
abbrev pub Leaves : Board → Left → Type 0
Leaves b l = Sits b l.seat × (l.over ≡ true → 0 < (knows l.seat).live.over)

-- the segment stands in its log, and the tasks are some that awaited its thread
abbrev pub IsPublished : Board → View → SegmentFields → List Task → Type 0
IsPublished b v s ts = HasSeen v s.path (s.from + length s.events) (ended s.events) × Each (CanWait (the_job (about b)) s.path) ts

-- one of the seats has found that every thread has ended
abbrev pub SomeOver : List BoardSeat → Type 0
SomeOver ss = (i : ℕ) × (s : BoardSeat) × (get_elem? ss i ≡ some s) × (0 < (knows s).live.over)
