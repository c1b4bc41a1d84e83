use Rattle.std.proofs.Common.{◌≡◌, length}
use Rattle.cost_graph.specs.View.{lists}
use Rattle.cost_graph.specs.Records.{parts_in}
use Rattle.cost_graph.specs.Inside.Tables.{first_in, AreRight}
use Rattle.cost_graph.proofs.records.all_parents.Given as goal

abbrev pub invariant-loop-t : goal.invariant-loop-t
invariant-loop-t l = record { long : length l.parents.items ≡ first_in (parts_in l.list) l.t; right : AreRight (parts_in l.list) (lists l.parents.items) }
