use Rattle.std.proofs.Common.{ℕ, ◌<◌}
use Rattle.priml_syntax.specs.Paths.{child_path}
use Rattle.cost_graph.specs.Records.{parts_in, IsThere}
use Rattle.cost_graph.proofs.finished.has_children.Given as goal

abbrev pub invariant-loop-k : goal.invariant-loop-k
invariant-loop-k l = (k : ℕ) → k < l.k → IsThere (parts_in l.list) (child_path l.path k)
