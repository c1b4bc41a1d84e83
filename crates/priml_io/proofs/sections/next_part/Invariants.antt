use Rattle.std.proofs.Common.{length}
use Rattle.priml_io.proofs.SectionsLemmas.{Passed}
use Rattle.priml_io.proofs.sections.next_part.Given as goal

abbrev pub invariant-loop-rest : goal.invariant-loop-rest
invariant-loop-rest l = Passed l.fn.text l.rest l.count

abbrev pub decreases-loop-rest : goal.decreases-loop-rest
decreases-loop-rest l = length l.rest
