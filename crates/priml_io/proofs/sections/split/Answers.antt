use Rattle.priml_io.proofs.OneCut.{one_way}
use Rattle.priml_io.proofs.sections.split.Goals as goal

pub returns-clause-one_way : goal.returns-clause-one_way
returns-clause-one_way c = one_way c.args.input.now
