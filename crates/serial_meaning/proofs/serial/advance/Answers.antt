use Rattle.std.proofs.Common.{subst}
use Rattle.core_steps.specs.Configs.{Stops, slots_of}
use Rattle.core_steps.specs.Moves.{read_job}
use Rattle.serial_meaning.proofs.serial.advance.Goals as goal

pub unreachable-requires : goal.unreachable-requires
unreachable-requires c =
    let is = c.requires.config in
    let stops : Stops (read_job c.args.job.now) (slots_of c.args.config.now) c.args.path.now c.in-Err-NoThread.field-0 = c.in-Err-NoThread.ensures.cause in
    (c.requires.goes is.threads is.reads).there (subst (Stops (read_job c.args.job.now) (slots_of c.args.config.now) c.args.path.now) c.in-Err-NoThread.field-0-is stops is.threads is.reads)

pub unreachable-requires-in-Err-Ended : goal.unreachable-requires-in-Err-Ended
unreachable-requires-in-Err-Ended c =
    let is = c.requires.config in
    let stops : Stops (read_job c.args.job.now) (slots_of c.args.config.now) c.args.path.now c.in-Err-Ended.field-0 = c.in-Err-Ended.ensures.cause in
    (c.requires.goes is.threads is.reads).live (subst (Stops (read_job c.args.job.now) (slots_of c.args.config.now) c.args.path.now) c.in-Err-Ended.field-0-is stops is.threads is.reads)

pub unreachable-requires-in-Err-Waits : goal.unreachable-requires-in-Err-Waits
unreachable-requires-in-Err-Waits c =
    let is = c.requires.config in
    let stops : Stops (read_job c.args.job.now) (slots_of c.args.config.now) c.args.path.now c.in-Err-Waits.field-0 = c.in-Err-Waits.ensures.cause in
    (c.requires.goes is.threads is.reads).free c.in-Err-Waits.field-0-0 (subst (Stops (read_job c.args.job.now) (slots_of c.args.config.now) c.args.path.now) c.in-Err-Waits.field-0-is stops is.threads is.reads)
