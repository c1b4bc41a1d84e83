use Rattle.source_grammar.proofs.Forms.{given_made}
use Rattle.source_grammar.proofs.list.Tuple2NameNameItem.item.Goals as goal

pub returns-clause-ok : goal.returns-clause-ok
returns-clause-ok c = given_made _ _ _ _ _ _ _ c.in_ok-lower.ensures.ok c.in_ok-expect_sign.ensures.ok c.in_ok-upper.ensures.ok
