use Rattle.std.proofs.Common.{◌≡◌, ◌+◌, length, sym, ap, ◌∙◌, subst, arith}
use Rattle.std.proofs.lemmas.List.{length_push}
use Rattle.priority_deques.specs.Inside.Opening.{Ready}
use Rattle.priority_deques.proofs.Joins.{ready_end, ready_push}
use Rattle.priority_deques.proofs.steal.StealLanes.open.Goals as goal

pub loop-made-preserved : goal.loop-made-preserved
loop-made-preserved c = let i = c.loop-made.invariant in let items = c.in_ok-push.ensures.items in record {
  long = ap length items ∙ (length_push c.loop-made.ends.items _ ∙ ap (λ n. n + 1) i.long);
  ready = subst (Ready c.args.job.now c.args.workers 0 0) (sym items) (ready_push c.args.job.now c.args.workers c.loop-made.ends.items _ i.ready c.in_ok-lone_end.ensures.0 c.in_ok-lone_end.ensures.1);
}

pub returns-clause-ends : goal.returns-clause-ends
returns-clause-ends c = let i = c.loop-worker.invariant in ready_end c.args.job.now c.args.workers c.loop-worker.ends.items i.long
    (let a = c.loop-worker-test.false in let b = c.loop-worker.auto.worker-end in let e : c.loop-worker.worker ≡ c.args.workers = omega arith in subst (λ n. Ready c.args.job.now c.args.workers n 0 c.loop-worker.ends.items) e i.ready)
