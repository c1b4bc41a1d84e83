use Rattle.std.proofs.Common.{ap}
use Rattle.priml_syntax.specs.Read.{read_program, read_outcome}
use Rattle.core_steps.specs.Fields.{read_local, read_mode}
use Rattle.core_steps.proofs.Standing.{ended_state}
use Rattle.core_steps.proofs.local.Local.next.Goals as goal

pub returns-in-Ended : goal.returns-in-Ended
returns-in-Ended c = λ s is. (read_outcome c.in-Ended.field-0, ended_state (read_program c.args.job.now.program) (read_local c.args.self.now) (read_outcome c.in-Ended.field-0) s (ap read_mode c.in-Ended.is) is)
