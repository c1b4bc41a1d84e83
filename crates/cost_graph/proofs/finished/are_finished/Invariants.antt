use Rattle.std.proofs.Common.{ℕ, ◌<◌}
use Rattle.cost_graph.specs.Records.{parts_in}
use Rattle.cost_graph.specs.Inside.Tables.{part_nth}
use Rattle.cost_graph.specs.Inside.Finished.{IsPartFinished}
use Rattle.cost_graph.proofs.finished.are_finished.Given as goal

abbrev pub invariant-loop-one : goal.invariant-loop-one
invariant-loop-one l = (t : ℕ) → t < l.one-index → IsPartFinished (parts_in l.list) (part_nth (parts_in l.list) t)
