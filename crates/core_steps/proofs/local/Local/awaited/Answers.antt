use Rattle.core_steps.specs.Fields.{read_frame, body_at}
use Rattle.priml_syntax.specs.Read.{read_program}
use Rattle.core_steps.proofs.Standing.{ending_awaits_none}
use Rattle.core_steps.proofs.local.Local.awaited.Goals as goal

pub returns-in-Some-Ending : goal.returns-in-Some-Ending
returns-in-Some-Ending c =
    let here = c.in-Some-Ending in
    let h = rw here.field-0-is at here.ensures.comes in
    ending_awaits_none here.field-0-0.now h.0 (body_at (read_program c.args.job.now.program) (read_frame c.args.self.now.top)) (read_frame c.args.self.now.top) h.1
