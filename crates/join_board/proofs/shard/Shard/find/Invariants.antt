use Rattle.std.proofs.Common.{◌≡◌, ◌≢◌, ◌<◌, ℕ}
use mathlib.Core.Option.{some}
use lib.ListN.{get_elem?}
use Rattle.join_board.specs.Entries.{Entry}
use Rattle.join_board.proofs.shard.Shard.find.Given as goal

abbrev pub invariant-loop-i : goal.invariant-loop-i
invariant-loop-i l = (j : ℕ) (e : Entry) → j < l.i → get_elem? l.fn.self j ≡ some e → e.log.path ≢ l.fn.path
