use Rattle.type_rules.proofs.OneFault.{one_fault}
use Rattle.type_rules.proofs.laws.at_most_one_fault.Goals as goal

pub returns : goal.returns
returns c = one_fault
