use Rattle.priml.specs.Inside.Prefixes.{NoJob}
use Rattle.priml.proofs.Alike.{ready}
use Rattle.priml.proofs.Chains.{handed_on, before_program, behind_program, stopped}
use Rattle.priml.proofs.prefixes.readied.Goals as goal

pub returns-in_err-sections-clause-refused : goal.returns-in_err-sections-clause-refused
returns-in_err-sections-clause-refused c = handed_on (NoJob c.args.input.now) _ _ c.from_residual.ensures.1 (before_program _ _ _ c.in_err-sections.ensures.refused)

pub returns-in_err-inputs-clause-refused : goal.returns-in_err-inputs-clause-refused
returns-in_err-inputs-clause-refused c =
    handed_on (NoJob c.args.input.now) _ _ c.from_residual-in_err-inputs.ensures.1 (behind_program _ _ _ _ _ c.in_ok-sections.ensures.ok (stopped _ _ _ c.in_err-inputs.ensures))

pub returns-clause-ok : goal.returns-clause-ok
returns-clause-ok c = let x = c.in_ok-inputs.ensures in ready _ _ _ _ _ c.new.ensures c.in_ok-sections.ensures.ok x.0 x.1 x.2
