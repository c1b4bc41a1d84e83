-- What the operations on a shard do.
use Rattle.std.specs.Prelude.{◌≡◌, ℕ, List, slice_set}
use mathlib.Core.Option.{some}
use lib.ListN.{get_elem?}
use Rattle.join_board.specs.Logs.{appended, handed_out, parked_on}
use Rattle.trace_book.specs.Segments.{SegmentFields}
use Rattle.task_state.specs.declared.task.Task.{Task}
use Rattle.join_board.specs.Entries.{Entry}

abbrev pub Appended : List Entry → ℕ → SegmentFields → List Entry → List Task → Type 0
Appended x i s y ts = (e : Entry) × (get_elem? x i ≡ some e) × (y ≡ slice_set x i (appended e s)) × (ts ≡ handed_out s.outcome e.waiting)

abbrev pub Parked : List Entry → ℕ → Task → List Entry → Type 0
Parked x i t y = (e : Entry) × (get_elem? x i ≡ some e) × (y ≡ slice_set x i (parked_on e t))
