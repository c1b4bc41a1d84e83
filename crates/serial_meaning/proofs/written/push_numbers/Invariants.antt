use Rattle.std.proofs.Common.{◌≡◌, ◌++◌, drop}
use Rattle.std.specs.String.{string_bytes}
use Rattle.std.specs.List.{flat_map}
use Rattle.serial_meaning.specs.RunText.{written_text}
use Rattle.serial_meaning.proofs.written.push_numbers.Given as goal

abbrev pub invariant-loop-event : goal.invariant-loop-event
invariant-loop-event l = string_bytes l.text ++ flat_map written_text (drop l.event-index l.events) ≡ string_bytes l.fn.text ++ flat_map written_text l.events
