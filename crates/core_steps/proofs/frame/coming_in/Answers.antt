use Rattle.core_steps.proofs.Coming.{action_comes, ending_comes, nothing_comes}
use Rattle.core_steps.proofs.frame.coming_in.Goals as goal

pub returns-then-done-binds-clause-comes : goal.returns-then-done-binds-clause-comes
returns-then-done-binds-clause-comes c = action_comes c.args.block.now c.as_slice-binds.result.now c.args.done c.index-binds-done.result c.as_slice-binds.ensures.value c.if-done-binds.true

pub returns-then-done-binds-2-clause-comes : goal.returns-then-done-binds-2-clause-comes
returns-then-done-binds-2-clause-comes c = nothing_comes c.args.block.now c.as_slice-binds.result.now c.args.done c.as_slice-binds.ensures.value c.if-done-binds-2.true

pub returns-clause-comes : goal.returns-clause-comes
returns-clause-comes c = ending_comes c.args.block.now c.as_slice-binds.result.now c.args.done c.as_slice-binds.ensures.value c.if-done-binds.false c.if-done-binds-2.false
