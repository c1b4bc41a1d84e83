use Rattle.priml_io.proofs.CutDecided.{all_cut}
use Rattle.priml_io.proofs.laws.every_input_is_cut.Goals as goal

pub returns : goal.returns
returns c = all_cut
