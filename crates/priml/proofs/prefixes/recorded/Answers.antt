use Rattle.priml.specs.Inside.Prefixes.{NoRecords}
use Rattle.priml.proofs.Alike.{ran, not_ran}
use Rattle.priml.proofs.Chains.{handed_on, before_run}
use Rattle.priml.proofs.prefixes.recorded.Goals as goal

pub returns-in_err-sections-clause-refused : goal.returns-in_err-sections-clause-refused
returns-in_err-sections-clause-refused c =
    handed_on (NoRecords c.args.most c.args.input.now) _ _ c.from_residual.ensures.1 (before_run _ _ _ c.in_err-sections.ensures.refused)

pub returns-in_err-records-clause-refused : goal.returns-in_err-records-clause-refused
returns-in_err-records-clause-refused c =
    handed_on (NoRecords c.args.most c.args.input.now) _ _ c.from_residual-in_err-records.ensures.1 (not_ran _ _ _ _ _ c.in_ok-sections.ensures.ok _ c.in_err-records.ensures.records)

pub returns-clause-ok : goal.returns-clause-ok
returns-clause-ok c = ran _ _ _ _ _ c.in_ok-sections.ensures.ok _ c.in_ok-records.ensures.records
