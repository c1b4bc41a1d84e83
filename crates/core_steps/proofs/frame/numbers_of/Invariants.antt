use Rattle.std.proofs.Common.{◌≡◌, map, take}
use Rattle.core_steps.specs.Steps.{prio_of}
use Rattle.core_steps.proofs.frame.numbers_of.Given as goal

abbrev pub invariant-loop-prio : goal.invariant-loop-prio
invariant-loop-prio l = l.all.items ≡ map (prio_of l.prios) (take l.prio-index l.list)
