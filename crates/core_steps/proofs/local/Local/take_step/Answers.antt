use Rattle.std.proofs.Common.{◌+◌, ap}
use Rattle.std.specs.Option.{option_map}
use Rattle.core_steps.specs.Fields.{read_local}
use Rattle.core_steps.specs.Inside.Locals.{read_boxed}
use Rattle.core_steps.specs.Locals.{read_awaited}
use Rattle.core_steps.specs.Moves.{read_job}
use Rattle.core_steps.proofs.StepLaws.{can_step, goes_counted, steps_on, steps_to}
use Rattle.core_steps.proofs.local.Local.take_step.Goals as goal

pub make-requires-clause-can : goal.make-requires-clause-can
make-requires-clause-can c = can_step (read_job c.args.job.now) c.job_is_checked.ensures (read_local c.args.self.now) c.requires.state c.requires.live (read_awaited c.args.awaited) c.requires.fed

pub returns-clause-state : goal.returns-clause-state
returns-clause-state c =
    let job = read_job c.args.job.now in
    let l = read_local c.args.self.now in
    let w = read_awaited c.args.awaited in
    let moved = c.in_ok-made.made in
    let after = read_local c.make.new.self in
    steps_on job l w moved.event (option_map read_boxed moved.child) (record after { steps = after.steps + 1 }) c.requires.state c.requires.fed
    (goes_counted job l w moved.event (option_map read_boxed moved.child) after (after.steps + 1) c.in_ok-made.ensures.goes) (ap (λ n. n + 1) c.make.ensures.steps)

pub returns-clause-child : goal.returns-clause-child
returns-clause-child c =
    steps_to (read_job c.args.job.now) (read_local c.args.self.now) (read_awaited c.args.awaited) c.in_ok-made.made.event (option_map read_boxed c.in_ok-made.made.child) (read_local c.make.new.self)
    c.requires.state c.requires.fed c.in_ok-made.ensures.goes
