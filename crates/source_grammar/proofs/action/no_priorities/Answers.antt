use Rattle.source_grammar.proofs.BlockForms.{absent_made}
use Rattle.source_grammar.proofs.action.no_priorities.Goals as goal

pub returns-clause-ok : goal.returns-clause-ok
returns-clause-ok c = absent_made _ _ _ _ c.in_ok-expect_sign.ensures.ok c.new.ensures.items
