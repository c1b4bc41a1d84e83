use Rattle.std.proofs.Common.{◌≡◌, ◌+◌, ◌*◌, ◌^◌, ◌≤◌, drop, map}
use Rattle.priml_syntax.specs.Read.{read_record}
use Rattle.priml_syntax.specs.Records.{work}
use Rattle.serial_meaning.proofs.text.work_of.Given as goal

abbrev pub invariant-loop-record : goal.invariant-loop-record
invariant-loop-record l =
    record {
      sum : l.sum + work (map read_record (drop l.record-index l.records)) ≡ work (map read_record l.records);
      small : l.sum ≤ 2 ^ 64 * l.record-index;
    }
