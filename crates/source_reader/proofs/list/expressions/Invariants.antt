use Rattle.std.proofs.Common.{◌≡◌, map, take, drop}
use Rattle.priml_syntax.specs.Read.{read_term}
use Rattle.source_grammar.specs.RawRead.{read_expr}
use Rattle.source_reader.specs.Faults.{terms_faults}
use Rattle.source_reader.specs.Resolved.{terms_meant}
use Rattle.source_reader.specs.Inside.Fits.{TermsFit}
use Rattle.source_reader.specs.Inside.Known.{env_in}
use Rattle.source_reader.proofs.list.expressions.Given as goal

abbrev pub invariant-loop-raw : goal.invariant-loop-raw
invariant-loop-raw l = record {
  fits : TermsFit (map read_expr (drop l.raw-index l.list));
  faults : terms_faults (env_in l.names) (map read_expr l.list) l.scope ≡ terms_faults (env_in l.names) (map read_expr (drop l.raw-index l.list)) l.scope;
  made : map read_term l.all.items ≡ terms_meant (env_in l.names) (map read_expr (take l.raw-index l.list)) l.scope;
}
