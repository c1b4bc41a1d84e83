use Rattle.std.proofs.Common.{None, refl, ap}
use Rattle.std.specs.Option.{option_map}
use Rattle.priml_syntax.specs.Read.{read_term, read_value}
use Rattle.core_steps.specs.Fields.{read_local}
use Rattle.core_steps.specs.Inside.Locals.{read_boxed}
use Rattle.core_steps.specs.Moves.{read_job}
use Rattle.core_steps.proofs.EndRows.{leave_row}
use Rattle.core_steps.proofs.StepRows.{made}
use Rattle.core_steps.proofs.local.Local.ret_tail.Goals as goal

pub returns-in_ok-leave-in-Value-clause-goes : goal.returns-in_ok-leave-in-Value-clause-goes
returns-in_ok-leave-in-Value-clause-goes c =
    let l = read_local c.args.self.now in
    made (read_job c.args.job.now) l None _ _ None _ _ _
    (leave_row (read_job c.args.job.now) l c.requires.can c.requires.mode c.requires.ending.0 (read_term c.args.expr.now) (read_value c.in-Value.value) (read_local c.leave.new.self) c.requires.ending.1
    (rw c.in-Value.is at c.in_ok-value.ensures) c.in_ok-leave-in-Value.ensures.ok)
    c.without_child.ensures.event (ap (option_map read_boxed) c.without_child.ensures.child) refl
