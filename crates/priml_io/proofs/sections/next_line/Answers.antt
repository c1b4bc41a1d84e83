use Rattle.std.proofs.Common.{◌+◌, arith}
use Rattle.priml_io.proofs.SectionsLemmas.{row-inner, row-last, rest-is, rest-none}
use Rattle.priml_io.proofs.sections.next_line.Goals as goal

pub returns-then-end-text-clause-row : goal.returns-then-end-text-clause-row
returns-then-end-text-clause-row c =
    let end = c.line_end-end in
    row-last c.args.text.now _ end.result c.if-end-text.true end.ensures.plain (rest-none c.args.text.now end.result c.if-end-text.true)

pub returns-clause-row : goal.returns-clause-row
returns-clause-row c =
    let end = c.line_end-end in
    row-inner c.args.text.now _ end.result (omega arith) (end.ensures.feed (omega arith)) end.ensures.plain (rest-is c.args.text.now (end.result + 1))
