use Rattle.std.proofs.Common.{arith}
use Rattle.priml.proofs.RightWords.{answer_or_memory}
use Rattle.priml.proofs.laws.priml_steady.Goals as goal

pub returns-clause-answer : goal.returns-clause-answer
returns-clause-answer g c = λ status text is.
    answer_or_memory _ _ _ _ c.priml.ensures.ends (λ rose. omega (arith, rose)) (λ rose. omega (arith, rose)) c.args.source.now (λ other had. had) status text is
