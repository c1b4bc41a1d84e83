use Rattle.priml.proofs.Replied.{not_read, replied, handed, still_reads}
use Rattle.priml.proofs.answer.answer_still.Goals as goal

pub returns-in_err-input : goal.returns-in_err-input
returns-in_err-input g c = λ words right. handed _ _ _ _ c.from_residual.ensures.1 (not_read _ _ c.args.command _ right (still_reads c.args.command c.requires.still) c.in_err-input.ensures)

pub returns : goal.returns
returns g c = λ words right. let h = c.in_ok-input.ensures in replied _ _ c.args.command _ c.answer.result right h.0 h.1 (rw c.deref.ensures.value at c.answer.ensures)
