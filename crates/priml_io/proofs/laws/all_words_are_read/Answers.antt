use Rattle.priml_io.proofs.WordsDecided.{all_read}
use Rattle.priml_io.proofs.laws.all_words_are_read.Goals as goal

pub returns : goal.returns
returns c = all_read
