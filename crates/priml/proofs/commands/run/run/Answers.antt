use Rattle.priml.proofs.Chains.{ungraphed}
use Rattle.priml.proofs.commands.run.run.Goals as goal

pub returns-in_err-job : goal.returns-in_err-job
returns-in_err-job g c = ungraphed _ _ _ _ _ c.from_residual.ensures.1 c.in_err-job.ensures.refused

pub returns : goal.returns
returns g c = c.planned.ensures _ _ _ c.in_ok-job.ensures.ok
