-- A seat between two calls.
use Rattle.std.specs.Prelude.{◌≡◌, ℕ, ◌<◌, ◌≤◌, List, [], Option}
use Rattle.atomic_table.specs.Table.{Me}
use Rattle.join_board.specs.Entries.{Entry}
use Rattle.join_board.specs.declared.view.View.{View}

-- it has nothing in hand, is neither ahead nor behind, and its numbers are those of its view
abbrev pub AtRest : Me (Option (List Entry)) View → ℕ → ℕ → Type 0
AtRest m steps uncounted =
    (m.1 ≡ [])
    × (m.0.hand.hand ≡ 0)
    × (m.0.live.ahead ≡ 0)
    × (m.0.live.behind ≡ 0)
    × (0 < m.0.seats)
    × (steps ≡ m.0.own)
    × (uncounted ≡ m.0.uncounted)
    × (uncounted ≤ steps)
