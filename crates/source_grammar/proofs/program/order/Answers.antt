use Rattle.source_grammar.proofs.HeadForms.{order_made}
use Rattle.source_grammar.proofs.program.order.Goals as goal

pub returns-clause-ok : goal.returns-clause-ok
returns-clause-ok c =
    order_made _ _ _ _ _ _ _ _ _ _ _ c.in_ok-at.ensures.ok c.in_ok-lower.ensures.ok c.in_ok-expect_sign.ensures.ok c.in_ok-upper.ensures.ok c.in_ok-expect_sign-2.ensures.ok
