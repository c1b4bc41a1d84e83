use Rattle.type_rules.proofs.Programs.{not_typable}
use Rattle.type_rules.proofs.laws.faults_are_untypable.Goals as goal

pub returns : goal.returns
returns c = not_typable
