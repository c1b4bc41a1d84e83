-- The seats of a board made one.
use Rattle.std.specs.Prelude.{◌≡◌, ℕ, ◌<◌, ◌≤◌, List}
use mathlib.Core.Option.{some}
use lib.ListN.{get_elem?}
use Rattle.trace_book.specs.Log.{Log}
use Rattle.core_steps.specs.Config.{Thread}
use Rattle.join_board.specs.Entries.{Entry}
use Rattle.join_board.specs.Jobs.{the_job}
use Rattle.join_board.specs.Logs.{HasRoots}
use Rattle.join_board.specs.Rule.{KeepsLogs}
use Rattle.join_board.specs.Close.{Contains, logs_in}
use Rattle.join_board.specs.declared.view.Sight.{Sight}
use Rattle.join_board.specs.declared.view.About.{About}
use Rattle.join_board.specs.declared.view.View.{View}

-- the second knows all that the first does
abbrev pub Absorbed : View → View → Type 0
Absorbed v w =
    (v.own ≤ w.own)
    × (v.live.over ≤ w.live.over)
    × (v.stop.found_limit ≤ w.stop.found_limit)
    × (v.stop.found_memory ≤ w.stop.found_memory)
    × ((i : ℕ) (t : Sight) → get_elem? v.seen i ≡ some t → (j : ℕ) × (get_elem? w.seen j ≡ some t))

-- the logs are those of shards that read as a reached configuration and have all that the view has seen
abbrev pub ClosesOne : About → View → List Log → Type 0
ClosesOne key v logs =
    (shards : List (List Entry))
    × (logs ≡ logs_in shards)
    × ((c : List Thread) × KeepsLogs key shards c × Contains key c shards v × HasRoots (the_job key) shards)
    × (0 < v.stop.found_memory → 0 < v.stop.asked_memory)
