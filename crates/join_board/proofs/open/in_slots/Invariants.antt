use Rattle.std.proofs.Common.{◌≡◌, List, map, Some}
use Rattle.join_board.specs.Entries.{Entry}
use Rattle.join_board.proofs.open.in_slots.Given as goal

abbrev pub invariant-loop-shard : goal.invariant-loop-shard
invariant-loop-shard l = l.slots.items ≡ map (λ (x : List Entry). Some x) l.yielded
