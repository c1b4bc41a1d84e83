use Rattle.prompt_checker.proofs.VerdictDecided.{all_judged}
use Rattle.prompt_checker.proofs.laws.every_schedule_is_judged.Goals as goal

pub returns : goal.returns
returns c = all_judged
