use Rattle.std.proofs.Common.{◌≡◌, take, drop}
use Rattle.source_reader.specs.Faults.{prios_faults}
use Rattle.source_reader.specs.Resolved.{prios_meant}
use Rattle.source_reader.specs.Inside.Known.{env_in}
use Rattle.source_reader.proofs.list.priorities.Given as goal

abbrev pub invariant-loop-name : goal.invariant-loop-name
invariant-loop-name l = record {
  faults : prios_faults (env_in l.names) l.list ≡ prios_faults (env_in l.names) (drop l.name-index l.list);
  made : l.all.items ≡ prios_meant (env_in l.names) (take l.name-index l.list);
}
