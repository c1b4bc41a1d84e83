use Rattle.std.proofs.Common.{take, map}
use Rattle.priml_syntax.specs.Read.{read_term}
use Rattle.type_rules.specs.Shared.{read_shared}
use Rattle.type_rules.specs.Typing.{HaveTypes}
use Rattle.type_rules.specs.Inside.Answers.{scope_of}
use Rattle.type_rules.proofs.call.types_of.Given as goal

abbrev pub invariant-loop-e : goal.invariant-loop-e
invariant-loop-e l = HaveTypes (scope_of l.scope) (map read_term (take l.e-index l.es)) (map read_shared l.types.items)
