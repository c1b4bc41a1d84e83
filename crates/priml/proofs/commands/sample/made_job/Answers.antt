use Rattle.std.proofs.Common.{ap, subst, ◌∙◌}
use Rattle.priml_syntax.specs.Read.{read_program}
use Rattle.core_steps.specs.Moves.{read_job}
use Rattle.source_reader.specs.Stands.{Stands}
use Rattle.priml.specs.Layers as the
use Rattle.priml.specs.Inside.Reply.{Stops}
use Rattle.priml.proofs.Chains.{wanting}
use Rattle.priml.proofs.Samples.{source_reads, made_typable, types_check}
use Rattle.priml.proofs.commands.sample.made_job.Goals as goal

pub returns-in_err-program-clause-memory : goal.returns-in_err-program-clause-memory
returns-in_err-program-clause-memory c =
    let stops = subst (λ text. Stops (the.source text) c.in_err-program.field-0.0) (c.deref.ensures.value ∙ c.in-Ok.ensures.text) c.in_err-program.ensures.program in
    wanting _ _ c.from_residual.ensures.1 (source_reads c.args.size c.in-Ok.ensures.program _ stops)

pub returns-in_err-checked-clause-memory : goal.returns-in_err-checked-clause-memory
returns-in_err-checked-clause-memory c =
    let stands = subst (λ text. Stands text (read_program c.in_ok-program.program)) (c.deref.ensures.value ∙ c.in-Ok.ensures.text) c.in_ok-program.ensures.program in
    wanting _ _ c.from_residual-in_err-checked.ensures.1 (types_check _ (made_typable c.args.size _ c.in-Ok.ensures.program stands) _ c.in_err-checked.ensures.typed)

pub returns-clause-job : goal.returns-clause-job
returns-clause-job c =
    let stands = subst (λ text. Stands text (read_program c.in_ok-program.program)) (c.deref.ensures.value ∙ c.in-Ok.ensures.text) c.in_ok-program.ensures.program in (
      read_program c.in_ok-program.program,
      stands,
      made_typable c.args.size _ c.in-Ok.ensures.program stands,
      ap read_job c.new.ensures ∙ (λ i. record { program = read_program (c.in_ok-checked.ensures.same i); inputs = c.none.ensures i }),
    )
