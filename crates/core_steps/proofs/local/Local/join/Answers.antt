use Rattle.std.proofs.Common.{Some}
use Rattle.priml_syntax.specs.Read.{read_outcome}
use Rattle.core_steps.specs.Fields.{read_local}
use Rattle.core_steps.specs.Moves.{read_job}
use Rattle.core_steps.proofs.StepLaws.{ending_waits}
use Rattle.core_steps.proofs.local.Local.join.Goals as goal

pub unreachable-requires-in-Some-Ending : goal.unreachable-requires-in-Some-Ending
unreachable-requires-in-Some-Ending c =
    let here = c.in-Some-Ending in
    let h = rw here.field-0-is at here.ensures.comes in
    ending_waits (read_job c.args.job.now) (read_local c.args.self.now) (Some (read_outcome c.args.outcome.now)) here.field-0-0.now h.0 c.requires.can c.requires.waits h.1
