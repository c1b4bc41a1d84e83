use Rattle.std.proofs.Common.{◌≡◌, ◌≤◌, [], length, map, take, drop}
use Rattle.priml_syntax.specs.Read.{read_type}
use Rattle.source_grammar.specs.RawRead.{read_param}
use Rattle.source_reader.specs.Names.{param_ids}
use Rattle.source_reader.specs.Faults.{params_faults}
use Rattle.source_reader.specs.Resolved.{param_meant}
use Rattle.source_reader.specs.Inside.Known.{env_in}
use Rattle.source_reader.proofs.procedure.parameters.Given as goal

abbrev pub invariant-loop-param : goal.invariant-loop-param
invariant-loop-param l = record {
  few : length l.scope.items ≤ 8;
  faults : params_faults (env_in l.names) (map read_param l.list) [] ≡ params_faults (env_in l.names) (map read_param (drop l.param-index l.list)) l.scope.items;
  scope : l.scope.items ≡ param_ids (map read_param (take l.param-index l.list));
  types : map read_type l.types.items ≡ map (param_meant (env_in l.names)) (map read_param (take l.param-index l.list));
}
