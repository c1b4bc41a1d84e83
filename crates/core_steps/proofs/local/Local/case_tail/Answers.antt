use Rattle.std.proofs.Common.{None, ap}
use Rattle.std.specs.Option.{option_map}
use Rattle.priml_syntax.specs.Read.{read_code, read_term, read_value}
use Rattle.core_steps.specs.Fields.{read_local}
use Rattle.core_steps.specs.Inside.Locals.{read_boxed}
use Rattle.core_steps.specs.Moves.{read_job}
use Rattle.core_steps.proofs.EndRows.{left_row, right_row}
use Rattle.core_steps.proofs.StepRows.{made}
use Rattle.core_steps.proofs.local.Local.case_tail.Goals as goal

pub returns-in_ok-branch_with-in-Left-clause-goes : goal.returns-in_ok-branch_with-in-Left-clause-goes
returns-in_ok-branch_with-in-Left-clause-goes c =
    made (read_job c.args.job.now) (read_local c.args.self.now) None _ _ None _ _ _
    (left_row (read_job c.args.job.now) (read_local c.args.self.now) c.requires.can c.requires.mode c.requires.ending.0 (read_term c.args.expr.now) (read_code c.args.a.now) (read_code c.args.b.now) (read_value c.in-Value.value) (read_value c.in-Left.inner) c.requires.ending.1
    (rw c.in-Value.is at c.in_ok-value.ensures) (rw c.in-Left.is at c.side.ensures))
    c.without_child.ensures.event (ap (option_map read_boxed) c.without_child.ensures.child) c.in_ok-branch_with-in-Left.ensures.ok

pub returns-in_ok-branch_with-in-Right-clause-goes : goal.returns-in_ok-branch_with-in-Right-clause-goes
returns-in_ok-branch_with-in-Right-clause-goes c =
    made (read_job c.args.job.now) (read_local c.args.self.now) None _ _ None _ _ _
    (right_row (read_job c.args.job.now) (read_local c.args.self.now) c.requires.can c.requires.mode c.requires.ending.0 (read_term c.args.expr.now) (read_code c.args.a.now) (read_code c.args.b.now) (read_value c.in-Value.value) (read_value c.in-Right.inner) c.requires.ending.1
    (rw c.in-Value.is at c.in_ok-value.ensures) (rw c.in-Right.is at c.side.ensures))
    c.without_child-in-Right.ensures.event (ap (option_map read_boxed) c.without_child-in-Right.ensures.child) c.in_ok-branch_with-in-Right.ensures.ok
