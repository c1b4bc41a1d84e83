use Rattle.std.proofs.Common.{◌∙◌, sym}
use Rattle.source_reader.proofs.Standing.{past, stops_behind, ends_behind}
use Rattle.source_reader.proofs.reader.cut_off.Goals as goal

pub returns-in-Some : goal.returns-in-Some
returns-in-Some c = λ ts ns n none is lexed.
    stops_behind c.args.text.now ts ns c.args.stop n c.in-Some.fault (past ts n none) is (sym c.fault_of.ensures ∙ c.in-Some.is) lexed

pub returns-in-None : goal.returns-in-None
returns-in-None c = λ ts ns n none is lexed.
    ends_behind c.args.text.now ts ns c.args.stop n (past ts n none) is (sym c.fault_of.ensures ∙ c.in-None.is) lexed
