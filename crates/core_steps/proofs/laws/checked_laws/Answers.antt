use Rattle.core_steps.proofs.CheckedLaws.{checked_laws}
use Rattle.core_steps.proofs.laws.checked_laws.Goals as goal

pub returns : goal.returns
returns c = checked_laws
