use Rattle.source_grammar.proofs.Forms.{joined_made, applied_made, injected_made}
use Rattle.source_grammar.proofs.expr.+expr.Goals as goal

pub joined-returns-clause-ok : goal.joined-returns-clause-ok
joined-returns-clause-ok t c = λ ts h.
    joined_made ts _ _ _ _ _ _ _ _ _ _ c.in_ok-joint.ensures.ok c.in_ok-second.ensures.ok c.in_ok-expect_sign.ensures.ok c.in_ok-join.ensures h

pub applied-returns-clause-ok : goal.applied-returns-clause-ok
applied-returns-clause-ok t c =
    applied_made _ _ _ _ _ _ _ _ c.args.prefix _ _ (rw c.word.ensures at c.in_ok-at.ensures.ok) c.in_ok-expect_sign.ensures.ok c.in_ok-value.ensures.ok c.in_ok-expect_sign-2.ensures.ok c.in_ok-apply.ensures

pub injected-returns-clause-ok : goal.injected-returns-clause-ok
injected-returns-clause-ok t c =
    injected_made _ _ _ _ _ _ _ _ _ _ _ _ _ c.args.side _ _ _ (rw c.word.ensures at c.in_ok-at.ensures.ok) c.in_ok-expect_sign.ensures.ok c.in_ok-ty.ensures.ok c.in_ok-expect_sign-2.ensures.ok
    c.in_ok-expect_sign-3.ensures.ok c.in_ok-value.ensures.ok c.in_ok-expect_sign-4.ensures.ok c.in_ok-inject.ensures
