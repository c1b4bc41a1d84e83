use Rattle.std.proofs.Common.{◌+◌, ◌-◌, ◌^◌, map, length, take, sym, ap, ◌∙◌}
use Rattle.std.specs.Prelude.{min}
use Rattle.priml_syntax.specs.Records.{work}
use Rattle.priml_syntax.specs.Read.{read_record}
use Rattle.priml_syntax.proofs.Sums.{work_next, saturates}
use Rattle.priml_syntax.proofs.record.Records.work.Goals as goal

pub loop-record-preserved : goal.loop-record-preserved
loop-record-preserved c =
    let i = c.loop-record.record-index in
    let xs = c.deref-record-items.result.now in
    let r = c.record-item.result in
    let b = length r.events.items in
    let m = 2 ^ 64 - 1 in
    c.saturating_add-sum.ensures ∙ ap (λ ys. min (c.loop-record.sum + length ys) m) c.as_slice-events.ensures.value ∙ ap (λ s. min (s + b) m) c.loop-record.invariant ∙ saturates (work (map read_record (take i xs))) b m ∙ ap (λ w. min w m) (sym (work_next read_record xs i r c.loop-record-test.true c.record-item.is))
