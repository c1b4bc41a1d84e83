use Rattle.priml.specs.Lines.{words_of}
use Rattle.priml.proofs.Replied.{not_both}
use Rattle.priml.proofs.layers.command.Goals as goal

pub returns-in-Err-clause-refused : goal.returns-in-Err-clause-refused
returns-in-Err-clause-refused c = λ d right. not_both (words_of c.args.words.now) c.in-Err.fault d c.in-Err.ensures.reads right
