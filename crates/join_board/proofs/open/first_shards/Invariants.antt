use Rattle.join_board.proofs.Openings.{Rooted}
use Rattle.join_board.proofs.open.first_shards.Given as goal

abbrev pub invariant-loop-k : goal.invariant-loop-k
invariant-loop-k l = Rooted l.fn.about l.k l.shards.items
