use Rattle.std.proofs.Common.{◌≡◌, length, map, take, drop}
use Rattle.source_grammar.specs.RawRead.{read_decl}
use Rattle.source_reader.specs.Names.{priorities, procedures}
use Rattle.source_reader.specs.Inside.Fits.{DeclsFit}
use Rattle.source_reader.proofs.declared.names_of.Given as goal

abbrev pub invariant-loop-decl : goal.invariant-loop-decl
invariant-loop-decl l = record {
  wide : length l.priorities.places.items ≡ l.names;
  same : length l.procedures.places.items ≡ l.names;
  fits : DeclsFit l.names (map read_decl (drop l.decl-index l.decls));
  priorities : l.priorities.ids.items ≡ priorities (map read_decl (take l.decl-index l.decls));
  procedures : l.procedures.ids.items ≡ procedures (map read_decl (take l.decl-index l.decls));
}
