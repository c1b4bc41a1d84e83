use Rattle.std.proofs.Common.{rules, ap, sym, subst, arith}
use Rattle.std.specs.Option.{option_map}
use Rattle.core_steps.specs.Fields.{read_local}
use Rattle.core_steps.specs.Moves.{read_job}
use Rattle.task_state.specs.Tasks.{begun, read_task}
use Rattle.task_state.specs.Turns.{Turn}
use Rattle.task_state.proofs.Runs.{went_more, turn_stepped, turn_went}
use Rattle.task_state.proofs.task.Task.run.Goals as goal

pub returns-then-is_some-clause-turn : goal.returns-then-is_some-clause-turn
returns-then-is_some-clause-turn c = turn_went (read_job c.args.job.now) (read_task c.args.self.now) c.loop.counter c.args.quantum (read_task c.loop.self) c.loop.invariant (omega (arith, c.loop-test.true))

pub returns-in_err-child-clause-turn : goal.returns-in_err-child-clause-turn
returns-in_err-child-clause-turn c = subst (Turn (read_job c.args.job.now) c.args.quantum (read_task c.args.self.now)) (sym c.in_err-child.ensures.kept) (turn_went (read_job c.args.job.now) (read_task c.args.self.now) c.loop.counter c.args.quantum (read_task c.loop.self) c.loop.invariant (omega (arith, c.loop-test.true)))

pub returns-in-Some-clause-turn : goal.returns-in-Some-clause-turn
returns-in-Some-clause-turn c = turn_stepped (read_job c.args.job.now) (read_task c.args.self.now) c.loop.counter (read_task c.loop.self) c.loop.invariant _ (read_task c.step.new.self) c.in_ok-child.ensures.ok c.args.quantum (omega (arith, c.loop-test.true))

pub returns-then-ended-clause-turn : goal.returns-then-ended-clause-turn
returns-then-ended-clause-turn c = turn_stepped (read_job c.args.job.now) (read_task c.args.self.now) c.loop.counter (read_task c.loop.self) c.loop.invariant _ (read_task c.step.new.self) c.in_ok-child.ensures.ok c.args.quantum (omega (arith, c.loop-test.true))

pub loop-preserved : goal.loop-preserved
loop-preserved c = went_more (read_job c.args.job.now) (read_task c.args.self.now) c.loop.counter (read_task c.loop.self) c.loop.invariant _ (read_task c.step.new.self) c.in_ok-child.ensures.ok (ap (λ o. option_map begun (option_map read_local o)) c.in-None.is) (search rules)

pub returns-clause-turn : goal.returns-clause-turn
returns-clause-turn c = turn_went (read_job c.args.job.now) (read_task c.args.self.now) c.loop.counter c.args.quantum (read_task c.loop.self) c.loop.invariant (search rules)

pub returns-in_err-begin-in-Some-clause-turn : goal.returns-in_err-begin-in-Some-clause-turn
returns-in_err-begin-in-Some-clause-turn c = turn_stepped (read_job c.args.job.now) (read_task c.args.self.now) c.loop.counter (read_task c.loop.self) c.loop.invariant _ (read_task c.step.new.self) c.in_ok-child.ensures.ok c.args.quantum (omega (arith, c.loop-test.true))
