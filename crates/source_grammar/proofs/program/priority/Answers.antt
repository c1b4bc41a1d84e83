use Rattle.source_grammar.proofs.HeadForms.{priority_made}
use Rattle.source_grammar.proofs.program.priority.Goals as goal

pub returns-clause-ok : goal.returns-clause-ok
returns-clause-ok c = priority_made _ _ _ _ _ _ _ c.in_ok-expect_word.ensures.ok c.in_ok-name.ensures.ok c.in_ok-expect_sign.ensures.ok
