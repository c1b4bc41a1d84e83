use Rattle.std.proofs.Common.{rules, ◌≡◌, None, ap, sym, ◌∙◌}
use Rattle.std.specs.Option.{option_map}
use Rattle.priml_syntax.specs.declared.event.Event.TheVariants.{Wrote}
use Rattle.priml_syntax.specs.Read.{read_term, read_value}
use Rattle.core_steps.specs.Fields.{read_local}
use Rattle.core_steps.specs.Inside.Locals.{read_boxed}
use Rattle.core_steps.specs.Moves.{read_job}
use Rattle.core_steps.proofs.StepRows.{made, output_row, output_stuck}
use Rattle.core_steps.proofs.local.Local.output.Goals as goal

pub unreachable-requires : goal.unreachable-requires
unreachable-requires c =
    output_stuck (read_job c.args.job.now) (read_local c.args.self.now) (read_term c.args.expr.now) (read_value c.in-Value.value) c.requires.can c.requires.mode c.requires.next (rw c.in-Value.is at c.in_ok-value.ensures) (sym c.number.ensures ∙ c.in-None.is)

pub returns-in_ok-bind-in-Some-clause-goes : goal.returns-in_ok-bind-in-Some-clause-goes
returns-in_ok-bind-in-Some-clause-goes c =
    made (read_job c.args.job.now) (read_local c.args.self.now) None _ _ None _ _ _
    (output_row (read_job c.args.job.now) (read_local c.args.self.now) (read_term c.args.expr.now) (read_value c.in-Value.value) c.in-Some.n c.requires.can c.requires.mode c.requires.next (rw c.in-Value.is at c.in_ok-value.ensures) (sym c.number.ensures ∙ c.in-Some.is))
    (let is : c.wrote.result ≡ Wrote c.in-Some.n = search rules in c.without_child.ensures.event ∙ is) (ap (option_map read_boxed) c.without_child.ensures.child) c.in_ok-bind-in-Some.ensures.ok
