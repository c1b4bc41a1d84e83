use Rattle.priml.proofs.Chains.{ungraphed}
use Rattle.priml.proofs.commands.report.report.Goals as goal

pub returns-in_err-job : goal.returns-in_err-job
returns-in_err-job c = ungraphed _ _ _ _ _ c.from_residual.ensures.1 c.in_err-job.ensures.refused

pub returns : goal.returns
returns c = c.planned.ensures _ _ _ c.in_ok-job.ensures.ok
