-- What a closed board has.
use Rattle.std.specs.Prelude.{◌≡◌, ◌<◌, ◌≤◌, List, map}
use Rattle.std.specs.List.{flat_map}
use Rattle.trace_book.specs.Log.{Log}
use Rattle.core_steps.specs.Config.{Thread, IsFinished}
use Rattle.core_steps.specs.Determined.{unended}
use Rattle.task_state.specs.Books.{ReadAs}
use Rattle.join_board.specs.Entries.{Entry}
use Rattle.join_board.specs.Jobs.{the_job}
use Rattle.task_state.specs.Sums.{total}
use Rattle.join_board.specs.Logs.{Each, size, HasRoots, Shows}
use Rattle.join_board.specs.Rule.{KeepsLogs}
use Rattle.join_board.specs.Handles.{knows}
use Rattle.join_board.specs.declared.owned.BoardSeat.{BoardSeat}
use Rattle.join_board.specs.declared.view.About.{About}
use Rattle.join_board.specs.declared.view.View.{View}

-- the shards have all that the view has seen and found
abbrev pub Contains : About → List Thread → List (List Entry) → View → Type 0
Contains key c shards v =
    (v.own ≤ total size shards)
    × Each (Shows shards) v.seen
    × (0 < v.live.over → unended c ≡ 0)
    × (0 < v.stop.found_limit → key.limit < total size shards)

-- the logs of all shards, in order
abbrev pub logs_in : List (List Entry) → List Log
logs_in = flat_map (λ (x : List Entry). map (λ (e : Entry). e.log) x)

-- where a seat has found Memory, one of the seats has asked for it
abbrev pub IsAskedFor : List BoardSeat → Type 0
IsAskedFor seats = Each (λ (s : BoardSeat). 0 < (knows s).stop.found_memory → 0 < total (λ (r : BoardSeat). (knows r).stop.asked_memory) seats) seats

-- the shards read as a reached configuration, in which each root has an entry, and have all that each seat has seen; where every thread has ended the logs
-- are those of the threads of a finished configuration
abbrev pub AreRead : About → List BoardSeat → List Log → List (List Entry) → Type 0
AreRead key seats logs shards =
    (c : List Thread)
    × KeepsLogs key shards c
    × Each (λ (s : BoardSeat). Contains key c shards (knows s)) seats
    × HasRoots (the_job key) shards
    × (unended c ≡ 0 → IsFinished c × ReadAs logs c)

-- the logs are those of such shards
abbrev pub Closes : About → List BoardSeat → List Log → Type 0
Closes key seats logs = (shards : List (List Entry)) × (logs ≡ logs_in shards) × AreRead key seats logs shards × IsAskedFor seats
