use Rattle.std.proofs.Common.{◌≡◌, ◌*◌, ◌^◌, ◌≤◌, take, length}
use Rattle.join_board.specs.Logs.{sum_of}
use Rattle.join_board.proofs.shard.shard_of.Given as goal

abbrev pub invariant-loop-part : goal.invariant-loop-part
invariant-loop-part l = (l.sum ≡ sum_of (take l.part-index l.part-items)) × (l.sum ≤ l.part-index * 2 ^ 32) × (l.part-index ≤ length l.part-items)
