use Rattle.std.proofs.Common.{refl}
use Rattle.priml.proofs.Endings.{ended_later}
use Rattle.priml.proofs.top.priml.Goals as goal

pub returns-in-None-clause-ends : goal.returns-in-None-clause-ends
returns-in-None-clause-ends g c =
    let same = c.in-None.ensures.untouched refl in
    ended_later g.S.Source.left g.S.Source.faults g.K.Sink.written g.K.Sink.faults _ _ _ _ _ _ _ _ c.reply_on_workers-reply.result same.0 same.1 c.reply_on_workers-reply.ensures.reply c.write_reply.ensures
