use Rattle.std.proofs.Common.{◌+◌, length, sym, ap, ◌∙◌, subst}
use Rattle.std.proofs.lemmas.List.{length_push}
use Rattle.priority_deques.proofs.Opened.{NewLanes, made, push_lane}
use Rattle.priority_deques.proofs.opening.lone_lanes.Goals as goal

pub loop-lane-preserved : goal.loop-lane-preserved
loop-lane-preserved g c = let own = g.O.Opens.own in let lanes = c.loop-lane.lanes.items in let i = c.loop-lane.invariant in let items = c.in_ok-push.ensures.items in record {
  long = ap length items ∙ (length_push lanes _ ∙ ap (λ n. n + 1) i.long);
  new = λ theirs. subst (NewLanes own theirs c.args.job.now 1) (sym items) (push_lane own theirs c.args.job.now lanes _ c.loop-lane.lane (i.new theirs) i.long c.in_ok-own.ensures c.new.ensures.items);
}

pub returns : goal.returns
returns g c = let l = c.loop-lane in λ theirs.
    made g.O.Opens.own theirs c.args.job.now 1 c.args.table.now l.lanes.items l.lane c.count-lane-end.result c.requires (l.invariant.new theirs) l.invariant.long c.count-lane-end.ensures.value c.count-lane-end.ensures.few l.auto.lane-end c.loop-lane-test.false
