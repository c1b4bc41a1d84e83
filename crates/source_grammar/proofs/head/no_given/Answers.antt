use Rattle.source_grammar.proofs.HeadForms.{no_given_made}
use Rattle.source_grammar.proofs.head.no_given.Goals as goal

pub returns-clause-ok : goal.returns-clause-ok
returns-clause-ok c = no_given_made _ _ _ _ _ _ c.in_ok-expect_sign.ensures.ok c.in_ok-expect_sign-2.ensures.ok c.new.ensures.items
