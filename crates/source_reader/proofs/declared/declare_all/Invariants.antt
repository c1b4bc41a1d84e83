use Rattle.std.proofs.Common.{◌≡◌, [], map, take, drop}
use Rattle.priml_syntax.specs.Read.{read_pair, read_proc}
use Rattle.source_grammar.specs.RawRead.{read_decl}
use Rattle.source_reader.specs.Names.{priorities, procedures}
use Rattle.source_reader.specs.Faults.{decls_faults}
use Rattle.source_reader.specs.Resolved.{pairs_meant, procs_meant}
use Rattle.source_reader.specs.Inside.Fits.{BodiesFit}
use Rattle.source_reader.specs.Inside.Known.{env_in}
use Rattle.source_reader.proofs.declared.declare_all.Given as goal

abbrev pub invariant-loop-decl : goal.invariant-loop-decl
invariant-loop-decl l =
    let env = env_in l.initial.names in
    let done = map read_decl (take l.decl-index l.decls) in
    let rest = map read_decl (drop l.decl-index l.decls) in
    record {
      fits : BodiesFit rest;
      outside : env_in l.names ≡ env;
      faults : decls_faults env (map read_decl l.decls) [] ≡ decls_faults env rest done;
      priorities : l.all.priorities.items ≡ priorities done;
      called : l.all.called.items ≡ procedures done;
      pairs : map read_pair l.all.pairs.items ≡ pairs_meant env.prios done;
      procs : map read_proc l.all.procs.items ≡ procs_meant env done;
    }
