use Rattle.std.proofs.Common.{◌≡◌, length, map, take, drop}
use Rattle.source_reader.specs.Faults.{givens_faults}
use Rattle.source_reader.specs.Resolved.{given_meant}
use Rattle.source_reader.specs.Inside.Known.{env_in}
use Rattle.source_reader.proofs.procedure.constraints.Given as goal

abbrev pub invariant-loop-low : goal.invariant-loop-low
invariant-loop-low l = record {
  faults : givens_faults (env_in l.names) l.list 0 ≡ givens_faults (env_in l.names) (drop l.low-index l.list) (length l.all.items);
  made : l.all.items ≡ map (given_meant (env_in l.names)) (take l.low-index l.list);
}
