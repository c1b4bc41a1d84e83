use Rattle.std.proofs.Common.{◌≡◌, drop}
use Rattle.std.specs.List.{list_any}
use Rattle.serial_meaning.specs.RunText.{is_written}
use Rattle.serial_meaning.proofs.written.has_written.Given as goal

abbrev pub invariant-loop-event : goal.invariant-loop-event
invariant-loop-event l = list_any is_written (drop l.event-index l.events) ≡ list_any is_written l.events
