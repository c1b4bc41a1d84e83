use Rattle.std.proofs.Common.{◌≡◌, List, [], replicate}
use Rattle.join_board.specs.Entries.{Entry}
use Rattle.join_board.proofs.open.empty_shards.Given as goal

abbrev pub invariant-loop : goal.invariant-loop
invariant-loop l = l.shards.items ≡ replicate {A = List Entry} l.counter []
