use Rattle.std.proofs.Common.{length}
use Rattle.priml_io.proofs.SectionsLemmas.{padding_told, unpadded, rest-is}
use Rattle.priml_io.proofs.sections.is_heading.Goals as goal

pub returns-then-not-begins_with : goal.returns-then-not-begins_with
returns-then-not-begins_with c = unpadded c.args.start.now c.args.line.now c.if-not-begins_with.ensures

pub returns : goal.returns
returns c =
    padding_told c.args.start.now c.args.line.now c.are_blank.result c.if-not-begins_with.ensures (rw (rest-is c.args.line.now (length c.args.start.now)) at c.are_blank.ensures)
