use Rattle.std.proofs.Common.{◌≡◌, take, map}
use Rattle.priml_syntax.specs.Read.{read_type}
use Rattle.type_rules.specs.Shared.{read_shared}
use Rattle.type_rules.proofs.routine.written_types.Given as goal

abbrev pub invariant-loop-t : goal.invariant-loop-t
invariant-loop-t l = map read_shared l.all.items ≡ map read_type (take l.t-index l.types)
