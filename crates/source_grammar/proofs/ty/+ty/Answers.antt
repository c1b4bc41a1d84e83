use Rattle.std.proofs.Common.{ap}
use Rattle.source_grammar.specs.RawRead.{read_ty}
use Rattle.source_grammar.proofs.Forms.{thread_made, paired_made}
use Rattle.source_grammar.proofs.ty.+ty.Goals as goal

pub thread-returns-clause-ok : goal.thread-returns-clause-ok
thread-returns-clause-ok t c =
    thread_made _ _ _ _ _ _ _ _ _ _ _ _ _ _ _ c.in_ok-at.ensures.ok c.in_ok-expect_sign.ensures.ok c.in_ok-priority.ensures.ok c.in_ok-expect_sign-2.ensures.ok c.in_ok-expect_sign-3.ensures.ok
    _ c.in_ok-value.ensures.ok c.in_ok-expect_sign-4.ensures.ok (ap read_ty c.in_ok-boxed.ensures)

pub paired-returns-clause-ok : goal.paired-returns-clause-ok
paired-returns-clause-ok t c =
    paired_made _ _ _ _ _ _ _ _ _ _ _ _ c.in_ok-at.ensures.ok c.in_ok-first.ensures.ok c.in_ok-mid.ensures.ok c.in_ok-second.ensures.ok c.in_ok-expect_sign.ensures.ok c.in_ok-joined.ensures
