use Rattle.std.proofs.Common.{None, Some, ap, sym, ◌∙◌}
use Rattle.std.specs.Option.{option_map}
use Rattle.priml_syntax.specs.Read.{read_code, read_term, read_value}
use Rattle.core_steps.specs.Fields.{read_local}
use Rattle.core_steps.specs.Inside.Locals.{read_boxed}
use Rattle.core_steps.specs.Moves.{read_job}
use Rattle.core_steps.proofs.EndRows.{true_row, false_row}
use Rattle.core_steps.proofs.StepRows.{made}
use Rattle.core_steps.proofs.local.Local.if_tail.Goals as goal

pub returns-in-Some-true-clause-goes : goal.returns-in-Some-true-clause-goes
returns-in-Some-true-clause-goes c =
    made (read_job c.args.job.now) (read_local c.args.self.now) None _ _ None _ _ _
    (true_row (read_job c.args.job.now) (read_local c.args.self.now) c.requires.can c.requires.mode c.requires.ending.0 (read_term c.args.expr.now) (read_code c.args.a.now) (read_code c.args.b.now) (read_value c.in-Value.value) c.requires.ending.1
    (rw c.in-Value.is at c.in_ok-value.ensures) (sym c.boolean.ensures ∙ c.in-Some-true.is ∙ ap Some c.in-Some-true.field-0-test))
    c.without_child.ensures.event (ap (option_map read_boxed) c.without_child.ensures.child) c.in_ok-branch-in-Some-true.ensures.ok

pub returns-in-Some-false-clause-goes : goal.returns-in-Some-false-clause-goes
returns-in-Some-false-clause-goes c =
    made (read_job c.args.job.now) (read_local c.args.self.now) None _ _ None _ _ _
    (false_row (read_job c.args.job.now) (read_local c.args.self.now) c.requires.can c.requires.mode c.requires.ending.0 (read_term c.args.expr.now) (read_code c.args.a.now) (read_code c.args.b.now) (read_value c.in-Value.value) c.requires.ending.1
    (rw c.in-Value.is at c.in_ok-value.ensures) (sym c.boolean.ensures ∙ c.in-Some-false.is ∙ ap Some c.in-Some-false.field-0-test))
    c.without_child-in-Some-false.ensures.event (ap (option_map read_boxed) c.without_child-in-Some-false.ensures.child) c.in_ok-branch-in-Some-false.ensures.ok
