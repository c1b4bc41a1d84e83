use Rattle.source_grammar.proofs.HeadForms.{absent_made}
use Rattle.source_grammar.proofs.head.no_head.Goals as goal

pub returns-clause-ok : goal.returns-clause-ok
returns-clause-ok c = absent_made _ _ _ _ _ c.in_ok-expect_sign.ensures.ok c.new.ensures.items c.new-2.ensures.items
