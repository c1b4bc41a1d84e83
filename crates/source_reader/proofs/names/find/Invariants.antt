use Rattle.std.proofs.Common.{◌≡◌, take}
use Rattle.source_reader.specs.Names.{lookup}
use Rattle.source_reader.proofs.names.find.Given as goal

abbrev pub invariant-loop-place : goal.invariant-loop-place
invariant-loop-place l = l.found ≡ lookup l.id (take l.place l.scope)
