use Rattle.priml.proofs.Decided.{words_answered}
use Rattle.priml.proofs.One.{one_answer}
use Rattle.priml.proofs.laws.words_are_answered.Goals as goal

pub returns-clause-some : goal.returns-clause-some
returns-clause-some c = words_answered

pub returns-clause-one : goal.returns-clause-one
returns-clause-one c = one_answer
