-- What a seat knows at the start, and has seen.
use Rattle.std.specs.Prelude.{◌≡◌, ℕ, List, [], true}
use mathlib.Core.Option.{some}
use lib.ListN.{get_elem?}
use Rattle.join_board.specs.Jobs.{the_job}
use Rattle.join_board.specs.Threads.{Spawns}
use Rattle.join_board.specs.declared.view.Sight.{Sight}
use Rattle.join_board.specs.declared.view.About.{About}
use Rattle.join_board.specs.declared.view.View.{View}
use Rattle.join_board.specs.declared.view.Hand.{Hand}
use Rattle.join_board.specs.declared.view.Live.{Live}
use Rattle.join_board.specs.declared.view.Keys.{Keys}
use Rattle.join_board.specs.declared.view.Stop.{Stop}

abbrev pub no_hand : Hand
no_hand = record { taken = 0; last = 0; hand = 0; copy = []; missed = 0; last_missed = 0 }

abbrev pub no_live : Live
no_live = record { ahead = 0; behind = 0; alive = 0; over = 0 }

abbrev pub no_keys : Keys
no_keys = record { parked = []; handed = [] }

abbrev pub no_stop : Stop
no_stop = record { most = 0; unset = 0; asked_limit = 0; asked_memory = 0; found_limit = 0; found_memory = 0 }

-- a view that has seen nothing, and stands for n seats
abbrev pub opened_view : About → ℕ → View
opened_view a n = record { about = a; seats = n; own = 0; uncounted = 0; hand = no_hand; seen = []; live = no_live; keys = no_keys; stop = no_stop }

abbrev pub newcomer : About → View
newcomer key = opened_view key key.opened

-- the seat has seen that the thread ended
abbrev pub HasSeenEnd : View → List ℕ → Type 0
HasSeenEnd v b = (i : ℕ) × (t : Sight) × (get_elem? v.seen i ≡ some t) × (t.path ≡ b) × (t.ended ≡ true)

-- the seat has seen the step that spawned the thread
abbrev pub HasSeenSpawn : View → List ℕ → Type 0
HasSeenSpawn v p = (i : ℕ) × (t : Sight) × (get_elem? v.seen i ≡ some t) × Spawns (the_job v.about) t.path t.length p
