use Rattle.std.proofs.Common.{◌≡◌, ◌++◌, drop, map}
use Rattle.std.specs.String.{string_bytes}
use Rattle.std.specs.List.{flat_map}
use Rattle.priml_syntax.specs.Read.{read_record}
use Rattle.serial_meaning.specs.RunText.{record_lines}
use Rattle.serial_meaning.proofs.text.push_records.Given as goal

abbrev pub invariant-loop-record : goal.invariant-loop-record
invariant-loop-record l =
    string_bytes l.text ++ flat_map (record_lines l.order.names) (map read_record (drop l.record-index l.records)) ≡ string_bytes l.fn.text ++ flat_map (record_lines l.order.names) (map read_record l.records)
