use Rattle.std.proofs.Common.{◌∙◌, sym}
use Rattle.source_tokens.specs.Runs.{joined}
use Rattle.source_grammar.specs.RawRead.{read_raw}
use Rattle.source_reader.proofs.Standing.{all_viable, stopped_at, leaves}
use Rattle.source_reader.proofs.reader.whole.Goals as goal

pub returns-in-Some-clause-refused : goal.returns-in-Some-clause-refused
returns-in-Some-clause-refused c = λ ns lexed.
    let ts = joined c.args.runs.now in
    stopped_at c.args.text.now ts ns c.args.stop c.in-Some.fault (sym c.fault_of.ensures ∙ c.in-Some.is) lexed (all_viable ts (read_raw c.in-Ok.raw) c.in-Ok.ensures.program)

pub returns-in-Err-Unexpected-Some-clause-refused : goal.returns-in-Err-Unexpected-Some-clause-refused
returns-in-Err-Unexpected-Some-clause-refused c = λ ns lexed.
    let here = c.in-Err-Unexpected-Some in
    let h = rw here.field-0-is at here.ensures.unexpected in
    leaves c.args.text.now (joined c.args.runs.now) ns c.args.stop h.0 here.token lexed h.1 (h.2 ∙ here.field-0-0-is)
