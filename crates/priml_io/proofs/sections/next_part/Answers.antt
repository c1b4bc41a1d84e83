use Rattle.priml_io.proofs.SectionsLemmas.{passed-more}
use Rattle.priml_io.proofs.sections.next_part.Goals as goal

pub loop-rest-preserved : goal.loop-rest-preserved
loop-rest-preserved c =
    let test = c.loop-rest-test.ensures in
    let row = c.next_line.ensures.row in
    passed-more _ c.loop-rest.rest.now c.next_line.result.1.now c.next_line.result.0.now row.0 c.loop-rest.count c.loop-rest.invariant test.0 test.1 row.2 (c.next_line.ensures.shorter test.0) row.1
