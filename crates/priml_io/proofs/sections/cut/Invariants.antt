use Rattle.std.proofs.Common.{◌≤◌, ◌+◌, length}
use Rattle.priml_io.specs.Sections.{bytes_of}
use Rattle.priml_io.proofs.Cutting.{Cutting}
use Rattle.priml_io.proofs.sections.cut.Given as goal

abbrev pub invariant-loop-rest : goal.invariant-loop-rest
invariant-loop-rest l = record {
  cutting : Cutting l.fn.input l.program (bytes_of l.inputs) (bytes_of l.schedule) l.number l.rest;
  few : l.number + length l.rest ≤ 1 + length l.fn.input;
}

abbrev pub decreases-loop-rest : goal.decreases-loop-rest
decreases-loop-rest l = length l.rest
