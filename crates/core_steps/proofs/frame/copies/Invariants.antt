use Rattle.std.proofs.Common.{◌≡◌, map, take}
use Rattle.priml_syntax.specs.Read.{read_value}
use Rattle.core_steps.proofs.frame.copies.Given as goal

abbrev pub invariant-loop-value : goal.invariant-loop-value
invariant-loop-value l = map read_value l.all.items ≡ map read_value (take l.value-index l.values)
