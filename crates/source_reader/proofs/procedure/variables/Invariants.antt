use Rattle.std.proofs.Common.{◌≡◌, ◌≤◌, [], length, take, drop}
use Rattle.source_reader.specs.Names.{ids}
use Rattle.source_reader.specs.Faults.{vars_faults}
use Rattle.source_reader.proofs.procedure.variables.Given as goal

abbrev pub invariant-loop-name : goal.invariant-loop-name
invariant-loop-name l = record {
  few : length l.vars.items ≤ 8;
  faults : vars_faults l.list [] ≡ vars_faults (drop l.name-index l.list) l.vars.items;
  made : l.vars.items ≡ ids (take l.name-index l.list);
}
