use Rattle.std.proofs.Common.{rules, ◌≡◌, None, ◌+◌, ap, sym, ◌∙◌}
use Rattle.std.specs.Option.{option_map}
use Rattle.priml_syntax.specs.declared.value.Value.TheVariants.{Int}
use Rattle.priml_syntax.specs.Read.{read_value}
use Rattle.priml_syntax.specs.Values.{left_value, right_value}
use Rattle.core_steps.specs.Fields.{LocalFields, read_local}
use Rattle.core_steps.specs.Inside.Locals.{read_boxed}
use Rattle.core_steps.specs.Moves.{read_job}
use Rattle.core_steps.specs.Inside.Moves.{bound_in}
use Rattle.core_steps.proofs.StepRows.{made, input_row, input_ended}
use Rattle.core_steps.proofs.local.Local.input.Goals as goal

pub returns-in_ok-bind-in-Some-clause-goes : goal.returns-in_ok-bind-in-Some-clause-goes
returns-in_ok-bind-in-Some-clause-goes c =
    made (read_job c.args.job.now) (read_local c.args.self.now) None _ _ None _ _ _
    (input_row (read_job c.args.job.now) (read_local c.args.self.now) c.in-Some.n c.requires.can c.requires.mode c.requires.next (sym c.next_input.ensures.value ∙ c.in-Some.is))
    c.without_child.ensures.event (ap (option_map read_boxed) c.without_child.ensures.child) (let boxed : c.in_ok-number-in-Some.number.value ≡ Int c.in-Some.n = search rules in
    ap (λ (x : LocalFields). record x { reads = x.reads + 1 }) (c.in_ok-bind-in-Some.ensures.ok ∙ ap (λ v. record (read_local c.args.self.now) { top = bound_in (read_local c.args.self.now).top (right_value (read_value v)) }) boxed))

pub returns-in_ok-bind-in-None-clause-goes : goal.returns-in_ok-bind-in-None-clause-goes
returns-in_ok-bind-in-None-clause-goes c =
    made (read_job c.args.job.now) (read_local c.args.self.now) None _ _ None _ _ _
    (input_ended (read_job c.args.job.now) (read_local c.args.self.now) c.requires.can c.requires.mode c.requires.next (sym c.next_input.ensures.value ∙ c.in-None.is))
    c.without_child-in-None.ensures.event (ap (option_map read_boxed) c.without_child-in-None.ensures.child) (c.in_ok-bind-in-None.ensures.ok ∙ ap (λ v. record (read_local c.args.self.now) { top = bound_in (read_local c.args.self.now).top (left_value (read_value v)) }) c.in_ok-unit-in-None.ensures.ok)
