use Rattle.std.proofs.Common.{◌+◌, length, ap, arith, length-append}
use Rattle.priml_io.specs.Sections.{bytes_of}
use Rattle.priml_io.proofs.SectionsLemmas.{bytes_of-none, bytes_of-some, some-from_test, none-from_test}
use Rattle.priml_io.proofs.Cutting.{Headed, cutting-start, cutting-done, inputs-next, schedule-next, unknown-stops, inputs-stop, schedule-stops}
use Rattle.priml_io.proofs.sections.cut.Goals as goal
use Rattle.priml_io.proofs.sections.cut.Goals.{then-is_heading+else-is_some, else-is_heading+then-is_heading-2+else-is_some-2}

pub loop-rest-init : goal.loop-rest-init
loop-rest-init c =
    let first = c.next_part-count.ensures in
    record {
      cutting = cutting-start _ _ _ _ first.whole first.part (ap (λ v. 1 + v) first.count);
      few = omega (arith, first.few, ap length first.whole, length-append c.next_part-count.result.0.now c.next_part-count.result.1.now);
    }

pub returns-else-is_heading-2-clause-fault : goal.returns-else-is_heading-2-clause-fault
returns-else-is_heading-2-clause-fault c =
    let row = c.next_line.ensures.row in
    let some = some-from_test _ c.loop-rest-test.ensures in
    unknown-stops _ _ _ _ _ _ row.0 c.next_line.result.0.now c.next_line.result.1.now c.loop-rest.invariant.cutting row.1 row.2 some c.if-is_heading.ensures c.if-is_heading-2.ensures

pub returns-then-is_some-clause-fault : goal.returns-then-is_some-clause-fault
returns-then-is_some-clause-fault c =
    let row = c.next_line.ensures.row in
    let some = some-from_test _ c.loop-rest-test.ensures in
    inputs-stop _ _ _ _ _ _ row.0 c.next_line.result.0.now c.next_line.result.1.now c.loop-rest.invariant.cutting row.1 row.2 some (bytes_of-some _ c.if-is_some.ensures) c.if-is_heading.ensures

pub returns-then-is_some-2-clause-fault : goal.returns-then-is_some-2-clause-fault
returns-then-is_some-2-clause-fault c =
    let row = c.next_line.ensures.row in
    let some = some-from_test _ c.loop-rest-test.ensures in
    schedule-stops _ _ _ _ _ _ row.0 c.next_line.result.0.now c.next_line.result.1.now c.loop-rest.invariant.cutting row.1 row.2 some (bytes_of-some _ c.if-is_some-2.ensures) c.if-is_heading-2.ensures

pub loop-rest-preserved : goal.loop-rest-preserved
loop-rest-preserved c =
    let row = c.next_line.ensures.row in
    let next = c.next_part-count-in-loop-rest.ensures in
    let line = c.next_line.result.0.now in
    let body = c.next_part-count-in-loop-rest.result.0.now in
    let after = c.next_part-count-in-loop-rest.result.1.now in
    let rest = c.loop-rest.rest.now in
    let number = c.loop-rest.number + (1 + c.next_part-count-in-loop-rest.result.2) in
    let some = some-from_test _ c.loop-rest-test.ensures in
    let headed : Headed rest line body after = record { bytes = row.0; tail = c.next_line.result.1.now; is = row.2; row = row.1; whole = next.whole; part = next.part } in
    record {
      cutting = elim c.if-is_heading.branch [
        | then-is_heading+else-is_some w ↦ rw (w.inputs-is, w.schedule-is) (inputs-next _ _ (bytes_of c.loop-rest.schedule) c.loop-rest.number number rest line body after (rw (bytes_of-none c.loop-rest.inputs w.if-is_some.ensures) at c.loop-rest.invariant.cutting) headed some w.if-is_heading.ensures (omega (arith, next.count)))
        | else-is_heading+then-is_heading-2+else-is_some-2 w ↦ rw (w.inputs-is, w.schedule-is) (schedule-next _ _ (bytes_of c.loop-rest.inputs) c.loop-rest.number number rest line body after (rw (bytes_of-none c.loop-rest.schedule w.if-is_some-2.ensures) at c.loop-rest.invariant.cutting) headed some w.if-is_heading-2.ensures (omega (arith, next.count)))
      ];
      few = omega (arith, c.loop-rest.invariant.few, next.few, ap length next.whole, length-append body after, c.next_line.ensures.shorter some);
    }

pub returns-clause-ok : goal.returns-clause-ok
returns-clause-ok c = cutting-done _ _ _ _ _ c.loop-rest.rest.now (none-from_test _ c.loop-rest-test.ensures) c.loop-rest.invariant.cutting
