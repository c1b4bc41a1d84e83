use Rattle.std.proofs.Common.{None, [], ◌∷◌, ◌++◌, map, ap, sym, ◌∙◌}
use Rattle.std.specs.Option.{option_map}
use Rattle.priml_syntax.specs.Read.{read_term, read_value}
use Rattle.core_steps.specs.Expressions.{results_of}
use Rattle.core_steps.specs.Fields.{read_local}
use Rattle.core_steps.specs.Inside.Locals.{read_boxed}
use Rattle.core_steps.specs.Moves.{read_job}
use Rattle.core_steps.specs.Inside.Moves.{past}
use Rattle.core_steps.specs.Steps.{prio_of}
use Rattle.core_steps.proofs.StepRows.{made, call_row, called_made}
use Rattle.core_steps.proofs.local.Local.call.Goals as goal

pub returns-in_ok-enter-in-Values-clause-goes : goal.returns-in_ok-enter-in-Values-clause-goes
returns-in_ok-enter-in-Values-clause-goes c =
    let l = read_local c.args.self.now in
    made (read_job c.args.job.now) l None _ _ None _ _ _
    (call_row (read_job c.args.job.now) l c.args.f c.args.prios.now.items (map read_term c.args.exprs.now.items) (map read_value c.in-Values.scope.items) c.requires.can c.requires.mode c.requires.next (ap (λ es. results_of l.top.scope (map read_term es)) (sym c.deref.ensures.value) ∙ (rw c.in-Values.is at c.in_ok-scope.ensures)))
    c.without_child.ensures.event (ap (option_map read_boxed) c.without_child.ensures.child)
    (c.in_ok-enter-in-Values.ensures.ok ∙ ap (λ t. record l { top = t; below = l.below ++ past l.top ∷ [] })
    (called_made c.args.f c.new.result.items (map read_value c.in-Values.scope.items) c.in_ok-numbers-in-Values.field-0.items (map (prio_of l.top.prios) c.args.prios.now.items) c.new.ensures.items
    (c.in_ok-numbers-in-Values.ensures ∙ ap (map (prio_of l.top.prios)) c.deref-in-Values.ensures.value)))
