use Rattle.source_grammar.proofs.Forms.{parameter_made}
use Rattle.source_grammar.proofs.list.RawParamItem.item.Goals as goal

pub returns-clause-ok : goal.returns-clause-ok
returns-clause-ok c = parameter_made _ _ _ _ _ _ _ c.in_ok-name.ensures.ok c.in_ok-expect_sign.ensures.ok c.in_ok-ty.ensures.ok
