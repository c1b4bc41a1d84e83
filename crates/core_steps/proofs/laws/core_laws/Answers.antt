use Rattle.core_steps.proofs.CoreLaws.{core_laws}
use Rattle.core_steps.proofs.laws.core_laws.Goals as goal

pub returns : goal.returns
returns c = core_laws
