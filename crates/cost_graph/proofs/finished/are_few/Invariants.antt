use Rattle.std.proofs.Common.{◌≡◌, ◌+◌}
use Rattle.cost_graph.specs.Records.{parts_in}
use Rattle.cost_graph.specs.Inside.Tables.{first_in}
use Rattle.cost_graph.proofs.finished.are_few.Given as goal

abbrev pub invariant-loop-one : goal.invariant-loop-one
invariant-loop-one l = l.left + first_in (parts_in l.list) l.one-index ≡ 4294967295
