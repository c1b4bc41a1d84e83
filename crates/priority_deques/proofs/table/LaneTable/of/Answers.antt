use Rattle.std.proofs.Common.{◌≡◌, ℕ, ◌<◌, ◌≤◌, ◌+◌, List, length, sym, ap, ◌∙◌, subst, arith}
use Rattle.std.proofs.lemmas.List.{length_push}
use Rattle.priority_order.specs.Order.{HasLane, most_names}
use Rattle.type_rules.specs.Jobs.{WithInputs}
use Rattle.priority_deques.specs.Ends.{lane_count}
use Rattle.priority_deques.specs.Inside.Tables.{IsLaneTable}
use Rattle.priority_deques.proofs.Lists.{EachAt, each_push}
use Rattle.priority_deques.proofs.table.LaneTable.of.Goals as goal

pub loop-priority-preserved : goal.loop-priority-preserved
loop-priority-preserved c = let o = c.order-order.result.now in let l = c.loop-priority.lanes.items in let k = c.lane.result in let i = c.loop-priority.invariant in let P : ℕ → ℕ → Type 0 = λ p j. HasLane o.pairs (length o.names) p j × (j < length o.names) in record {
  long = ap length c.in_ok-push.ensures.items ∙ (length_push l k ∙ ap (λ n. n + 1) i.long);
  each = subst (EachAt P) (sym c.in_ok-push.ensures.items) (each_push P l k i.each (subst (λ p. P p k) (sym i.long) (c.lane.ensures.is, c.lane.ensures.within)));
}

pub invariant_of-result : goal.invariant_of-result
invariant_of-result c = let o = c.order-order.ensures in let l = c.loop-priority.lanes.items in let i = c.loop-priority.invariant in subst (λ (j : WithInputs). IsLaneTable j l) (sym c.of.ensures) (record {
  checked = c.job_is_checked.ensures;
  long = let a = i.long in let n : c.count-priority-end.result ≡ lane_count c.args.job.now = c.count-priority-end.ensures.value ∙ ap length o.names in let x = c.loop-priority-test.false in let y = c.loop-priority.auto.priority-end in omega arith;
  few = subst (λ n. n ≤ most_names) (c.count-priority-end.ensures.value ∙ ap length o.names) c.count-priority-end.ensures.few;
  each = λ p k e. let h = i.each p k e in subst (λ (z : List (ℕ × ℕ) × List (List ℕ)). HasLane z.0 (length z.1) p k × (k < length z.1)) (λ d. (o.pairs d, o.names d)) h;
})
