use Rattle.std.proofs.Common.{◌≡◌, Some, None, ap, sym, subst, ◌∙◌}
use Rattle.std.specs.Option.{option_map}
use Rattle.priml_syntax.specs.Read.{read_outcome, read_value}
use Rattle.core_steps.specs.Fields.{read_local}
use Rattle.core_steps.specs.Inside.Locals.{read_boxed}
use Rattle.priml_syntax.specs.Values.{returned}
use Rattle.core_steps.specs.Moves.{Goes, read_job}
use Rattle.core_steps.specs.Inside.Moves.{CanStep, bound_in}
use Rattle.core_steps.proofs.StepRows.{made, join_row}
use Rattle.core_steps.proofs.local.Local.join_thread.Goals as goal

pub returns-in_ok-bind-in-Value-clause-goes : goal.returns-in_ok-bind-in-Value-clause-goes
returns-in_ok-bind-in-Value-clause-goes c =
    let job = read_job c.args.job.now in
    let l = read_local c.args.self.now in
    let is : read_outcome c.args.outcome.now ≡ returned (read_value c.in-Value.value) = ap read_outcome c.in-Value.is in
    subst (λ o. Goes job l (Some o) c.without_child.result.event (option_map read_boxed c.without_child.result.child) (read_local c.bind.new.self)) (sym is)
    (made job l _ _ _ None _ _ _
    (join_row job l c.args.x c.args.path (read_value c.in-Value.value) (subst (λ o. CanStep job l (Some o)) is c.requires.can) c.requires.mode c.requires.next c.requires.path)
    c.without_child.ensures.event (ap (option_map read_boxed) c.without_child.ensures.child) (c.in_ok-bind-in-Value.ensures.ok ∙ ap (λ v. record l { top = bound_in l.top v }) c.in_ok-value-in-Value.ensures))
