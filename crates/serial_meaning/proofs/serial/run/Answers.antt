use Rattle.std.proofs.Common.{rules, ◌<◌, length}
use Rattle.core_steps.specs.Configs.{slots_of}
use Rattle.core_steps.specs.Moves.{read_job}
use Rattle.serial_meaning.proofs.Stack.{over_at}
use Rattle.serial_meaning.proofs.serial.run.Goals as goal

pub returns-then-steps-limit-clause-over : goal.returns-then-steps-limit-clause-over
returns-then-steps-limit-clause-over c =
    let some : 0 < length c.steps.active.items = search rules in
    λ _. over_at (read_job c.args.job.now) c.job_is_checked.ensures c.steps.steps c.args.limit (slots_of c.steps.config) c.steps.active.items c.steps.invariant.serial some c.if-steps-limit.true
