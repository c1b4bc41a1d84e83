use Rattle.source_grammar.proofs.HeadForms.{routine_made}
use Rattle.source_grammar.proofs.head.routine.Goals as goal

pub returns-clause-ok : goal.returns-clause-ok
returns-clause-ok c =
    routine_made _ _ _ _ _ _ _ _ _ _ _ _ c.in_ok-expect_word.ensures.ok c.in_ok-own.ensures.ok c.in_ok-expect_sign.ensures.ok c.in_ok-result.ensures.ok c.in_ok-body.ensures.ok
