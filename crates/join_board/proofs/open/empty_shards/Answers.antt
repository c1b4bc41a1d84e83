use Rattle.std.proofs.Common.{List, [], ◌∷◌, ◌++◌, ◌∙◌}
use Rattle.join_board.specs.Entries.{Entry}
use Rattle.join_board.proofs.Openings.{replicate_next}
use Rattle.join_board.proofs.open.empty_shards.Goals as goal

pub loop-preserved : goal.loop-preserved
loop-preserved c = c.in_ok-push.ensures.items ∙ ((λ i. c.loop.invariant i ++ c.new.ensures i ∷ []) ∙ replicate_next {A = List Entry} c.loop.counter [])
