use Rattle.source_grammar.proofs.EveryList.{every_list}
use Rattle.source_grammar.proofs.laws.grammar_laws.Goals as goal

pub returns : goal.returns
returns c = every_list
