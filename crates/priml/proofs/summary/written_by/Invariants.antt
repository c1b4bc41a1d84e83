use Rattle.std.proofs.Common.{◌≡◌, ◌+◌, ◌≤◌, drop}
use Rattle.source_maker.specs.Runs.{written}
use Rattle.priml.proofs.summary.written_by.Given as goal

abbrev pub invariant-loop-event : goal.invariant-loop-event
invariant-loop-event l =
    record {
      sum : l.sum + written (drop l.event-index l.events) ≡ written l.events;
      small : l.sum ≤ l.event-index;
    }
