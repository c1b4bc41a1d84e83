use Rattle.std.proofs.Common.{length}
use Rattle.prompt_checker.specs.Read.{lists}
use Rattle.prompt_checker.proofs.ReadLines.{IsReading}
use Rattle.prompt_checker.proofs.reader.read_schedule.Given as goal

abbrev pub invariant-lines : goal.invariant-lines
invariant-lines l = IsReading l.graph l.fn.text l.rest (lists l.steps.items)

abbrev pub decreases-lines : goal.decreases-lines
decreases-lines l = length l.rest
