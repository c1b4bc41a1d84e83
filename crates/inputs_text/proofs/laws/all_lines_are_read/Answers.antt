use Rattle.inputs_text.proofs.LinesDecided.{all_read}
use Rattle.inputs_text.proofs.laws.all_lines_are_read.Goals as goal

pub returns : goal.returns
returns c = all_read
