use Rattle.std.proofs.Common.{Ok, subst}
use Rattle.priml_io.specs.Words.{ReadsWords}
use Rattle.priml.specs.Lines.{words_of}
use Rattle.priml.proofs.Replied.{sampled}
use Rattle.priml.proofs.answer.reply_on_workers.Goals as goal

pub returns-in-Sample-clause-reply : goal.returns-in-Sample-clause-reply
returns-in-Sample-clause-reply g c =
    sampled _ _ _ _ _ _ _ c.sample.result (subst (λ d. ReadsWords (words_of c.args.words.now) (Ok d)) c.in-Sample.is c.in_ok-command.ensures.command) c.sample.ensures

pub returns-in_default : goal.returns-in_default
returns-in_default g c = record {
  reply = c.answer_on_workers.ensures.reply _ c.in_ok-command.ensures.command;
  unread = λ no. absurd (no (c.in_ok-command.command, c.in_ok-command.ensures.command, c.answer_on_workers.ensures.reads));
}
