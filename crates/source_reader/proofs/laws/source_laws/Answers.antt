use Rattle.source_reader.proofs.EveryText.{source_laws}
use Rattle.source_reader.proofs.laws.source_laws.Goals as goal

pub returns : goal.returns
returns c = source_laws
