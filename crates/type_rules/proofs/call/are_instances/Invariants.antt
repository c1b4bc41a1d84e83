use Rattle.std.proofs.Common.{◌≡◌, take, map}
use Rattle.priml_syntax.specs.Read.{read_type}
use Rattle.type_rules.specs.Typing.{subst_type}
use Rattle.type_rules.specs.Shared.{read_shared}
use Rattle.type_rules.proofs.call.are_instances.Given as goal

abbrev pub invariant-loop-i : goal.invariant-loop-i
invariant-loop-i l = map read_shared (take l.i l.types) ≡ map (subst_type l.ps) (map read_type (take l.i l.params))
