use Rattle.std.proofs.Common.{◌<◌, ◌≢◌, ◌∙◌, ap, length, arith, get_or-set_other, get_or-set_same, below_more}
use Rattle.priority_order.specs.Edges.{joined}
use Rattle.priority_order.proofs.closure.join_rows.Goals as goal

pub loop-row-preserved : goal.loop-row-preserved
loop-row-preserved c =
    let i = c.loop-row.row-index in
    let inv = c.loop-row.invariant in
    let within : i < length c.loop-row.row-items = omega (arith, c.loop-row-test.true, c.loop-row.auto.row-items) in
    record {
      done = below_more _ _
          (λ k h. let ne : k ≢ i = omega arith in rw get_or-set_other (inv.done k h))
          (rw get_or-set_same (c.with_bits.ensures ∙ ap (joined c.args.a c.index-more.result.now) (inv.left i (omega arith))));
      left = λ k h. let ne : k ≢ i = omega arith in rw get_or-set_other (inv.left k (omega arith));
    }
