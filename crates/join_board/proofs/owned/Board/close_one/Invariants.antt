use Rattle.std.proofs.Common.{◌≡◌, ◌<◌, ◌≤◌, ℕ, List, length, false, true, get_or, vec_capacity, Some, vec_len}
use mathlib.Core.Option.{some}
use lib.ListN.{get_elem?}
use Rattle.std.specs.Slots.{slots_filled, slots_len, slots_items}
use Rattle.trace_book.specs.Book.{all_logs}
use Rattle.join_board.specs.Entries.{Entry}
use Rattle.join_board.specs.Logs.{shard_at}
use Rattle.join_board.specs.Close.{logs_in}
use Rattle.join_board.proofs.owned.Board.close_one.Given as goal

abbrev pub invariant-loop-i : goal.invariant-loop-i
invariant-loop-i l = (slots_len l.closed.slots ≡ 64) × (slots_items l.closed.slots ≡ slots_items l.initial.closed.slots)
    × ((k : ℕ) → l.i ≤ k → k < 64 → get_or (slots_filled l.closed.slots) k false ≡ true) × ((k : ℕ) → k < l.i → get_or (slots_filled l.closed.slots) k false ≡ false)
    × (64 ≤ vec_capacity l.room) × (vec_len l.room ≡ l.i)
    × ((taken : List (List Entry)) × (length taken ≡ l.i) × ((k : ℕ) → k < l.i → get_elem? (slots_items l.initial.closed.slots) k ≡ some (Some (shard_at taken k))) × (all_logs l.room.items ≡ logs_in taken))
