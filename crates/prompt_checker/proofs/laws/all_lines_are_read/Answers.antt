use Rattle.prompt_checker.proofs.LinesDecided.{all_read}
use Rattle.prompt_checker.proofs.laws.all_lines_are_read.Goals as goal

pub returns : goal.returns
returns c = all_read
