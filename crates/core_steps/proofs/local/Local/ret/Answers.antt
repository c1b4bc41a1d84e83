use Rattle.std.proofs.Common.{None, ap}
use Rattle.std.specs.Option.{option_map}
use Rattle.priml_syntax.specs.Read.{read_term, read_value}
use Rattle.core_steps.specs.Fields.{read_local}
use Rattle.core_steps.specs.Inside.Locals.{read_boxed}
use Rattle.core_steps.specs.Moves.{read_job}
use Rattle.core_steps.proofs.StepRows.{made, ret_row, ret_fault}
use Rattle.core_steps.proofs.local.Local.ret.Goals as goal

pub returns-in_ok-bind-in-Value-clause-goes : goal.returns-in_ok-bind-in-Value-clause-goes
returns-in_ok-bind-in-Value-clause-goes c =
    made (read_job c.args.job.now) (read_local c.args.self.now) None _ _ None _ _ _
    (ret_row (read_job c.args.job.now) (read_local c.args.self.now) (read_term c.args.expr.now) (read_value c.in-Value.value) c.requires.can c.requires.mode c.requires.next (rw c.in-Value.is at c.in_ok-value.ensures))
    c.without_child.ensures.event (ap (option_map read_boxed) c.without_child.ensures.child) c.in_ok-bind-in-Value.ensures.ok

pub returns-in-Fault-clause-goes : goal.returns-in-Fault-clause-goes
returns-in-Fault-clause-goes c =
    made (read_job c.args.job.now) (read_local c.args.self.now) None _ _ None _ _ _
    (ret_fault (read_job c.args.job.now) (read_local c.args.self.now) (read_term c.args.expr.now) c.in-Fault.kind c.requires.can c.requires.mode c.requires.next (rw c.in-Fault.is at c.in_ok-value.ensures))
    c.end.ensures.event (ap (option_map read_boxed) c.end.ensures.child) c.end.ensures.fields
