use Rattle.std.proofs.Common.{◌≡◌, ℕ, ◌<◌, length, get_or, []}
use Rattle.cost_graph.specs.View.{lists}
use Rattle.cost_graph.specs.Records.{parts_in}
use Rattle.cost_graph.specs.Inside.Tables.{part_nth, AreSpawnPlaces}
use Rattle.cost_graph.proofs.records.spawn_lists.Given as goal

abbrev pub invariant-loop-record : goal.invariant-loop-record
invariant-loop-record l =
    record {
      covers : length (lists l.all.items) ≡ l.record-index;
      are : (t : ℕ) → t < l.record-index → AreSpawnPlaces (part_nth (parts_in l.list) t).events (get_or (lists l.all.items) t []);
    }
