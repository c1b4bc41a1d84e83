use Rattle.std.proofs.Common.{◌≡◌, ◌+◌, ◌*◌, ◌^◌, ◌≤◌, drop, map}
use Rattle.priml_syntax.specs.Read.{read_record}
use Rattle.source_maker.specs.Runs.{outputs}
use Rattle.priml.proofs.summary.outputs_of.Given as goal

abbrev pub invariant-loop-record : goal.invariant-loop-record
invariant-loop-record l =
    record {
      sum : l.sum + outputs (map read_record (drop l.record-index l.records)) ≡ outputs (map read_record l.records);
      small : l.sum ≤ 2 ^ 64 * l.record-index;
    }
