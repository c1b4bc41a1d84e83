use Rattle.std.proofs.Common.{◌≤◌}
use Rattle.cost_graph.specs.Records.{parts_in}
use Rattle.cost_graph.proofs.RootsCounted.{HasRootsBefore}
use Rattle.cost_graph.proofs.finished.are_roots.Given as goal

abbrev pub invariant-loop-one : goal.invariant-loop-one
invariant-loop-one l = HasRootsBefore (parts_in l.list) l.one-index l.count × (l.count ≤ l.one-index)
