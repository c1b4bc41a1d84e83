use Rattle.type_rules.proofs.TypesDecided.{each_decided}
use Rattle.type_rules.proofs.laws.each_is_typed_or_faulty.Goals as goal

pub returns : goal.returns
returns c = each_decided
