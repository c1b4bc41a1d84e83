use Rattle.priml.proofs.Replied.{no_command, still_reads}
use Rattle.priml.proofs.answer.reply_still.Goals as goal

pub returns-else-uses_workers-clause-unread : goal.returns-else-uses_workers-clause-unread
returns-else-uses_workers-clause-unread g c =
    λ no. absurd (no (c.in-Ok.command, c.in-Ok.ensures.command, still_reads c.in-Ok.command (c.uses_workers.ensures.still c.if-uses_workers.false)))

pub returns-in-Err-clause-reply : goal.returns-in-Err-clause-reply
returns-in-Err-clause-reply g c = no_command _ _ c.in-Err.stop c.in-Err.ensures.command

pub returns-in-Err-clause-still : goal.returns-in-Err-clause-still
returns-in-Err-clause-still g c = λ needs. c.in-Err.ensures.refused needs.0 needs.1
