use Rattle.std.proofs.Common.{subst, sym}
use Rattle.priml.specs.Commands.{Of}
use Rattle.priml.specs.Inside.Reply.{Replies}
use Rattle.priml.proofs.Replied.{not_read, replied, handed}
use Rattle.priml.proofs.answer.answer_on_workers.Goals as goal

pub returns-in_err-input-clause-reply : goal.returns-in_err-input-clause-reply
returns-in_err-input-clause-reply g c = λ words right. handed _ _ _ _ c.from_residual.ensures.1 (not_read _ _ c.args.command _ right c.requires.reads c.in_err-input.ensures)

pub returns-in-Run-clause-reply : goal.returns-in-Run-clause-reply
returns-in-Run-clause-reply g c = λ words right.
    let h = c.in_ok-input.ensures in
    replied _ _ c.args.command _ c.run.result right h.0 h.1 (subst (λ d. Replies (Of d c.in_ok-input.input.items) c.run.result) (sym c.in-Run.is) (rw c.deref.ensures.value at c.run.ensures))

pub returns-in-Trace-clause-reply : goal.returns-in-Trace-clause-reply
returns-in-Trace-clause-reply g c = λ words right.
    let h = c.in_ok-input.ensures in
    replied _ _ c.args.command _ c.trace.result right h.0 h.1 (subst (λ d. Replies (Of d c.in_ok-input.input.items) c.trace.result) (sym c.in-Trace.is) (rw c.deref-in-Trace.ensures.value at c.trace.ensures))
