use Rattle.std.proofs.Common.{◌≡◌, ◌+◌, length}
use Rattle.cost_graph.specs.View.{lists}
use Rattle.cost_graph.specs.Records.{parts_in}
use Rattle.cost_graph.specs.Inside.Tables.{first_in, AreRight}
use Rattle.cost_graph.proofs.records.add_thread.Given as goal

abbrev pub invariant-loop-n : goal.invariant-loop-n
invariant-loop-n l = record { long : length l.parents.items ≡ first_in (parts_in l.list) l.t + l.n; right : AreRight (parts_in l.list) (lists l.parents.items) }
