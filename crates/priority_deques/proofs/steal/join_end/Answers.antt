use Rattle.std.proofs.Common.{rules, ◌≡◌, ◌<◌, length, refl, ◌∙◌, subst, length-set, arith}
use Rattle.std.proofs.lemmas.Option.{slice_get_read}
use Rattle.priority_deques.specs.Ends.{lane_count}
use Rattle.priority_deques.specs.Inside.Opening.{Ready}
use Rattle.priority_deques.proofs.Joins.{ready_joined, ready_long, ready_next}
use Rattle.priority_deques.proofs.steal.join_end.Goals as goal

pub loop-lane-preserved : goal.loop-lane-preserved
loop-lane-preserved c = let l = c.loop-lane in let i = l.invariant in let all = length c.args.ends.now.items in let ends = c.visitors.new.ends.items in let x = c.index_mut.result.now in let e = c.in_ok-others.ensures.ends in let o = c.in_ok-others.ensures.others in
    let inside : c.args.worker < length ends = search rules in let at = slice_get_read ends (length ends) c.args.worker x refl inside c.index_mut.ensures.value in
    let ready : Ready c.args.job.now all c.args.worker l.lane ends = subst (λ n. Ready c.args.job.now n c.args.worker l.lane ends) i.count e.1 in
    let long = ready_long c.args.job.now all c.args.worker l.lane c.args.worker ends x ready at in
    let first = c.args.ends.now.items in let x0 = c.index.result.now in let at0 = slice_get_read first (length first) c.args.worker x0 refl c.requires.worker c.index.ensures in
    let long0 = ready_long c.args.job.now (length first) c.args.worker 0 c.args.worker first x0 c.requires.ready at0 in let size = x0.lanes.ok in let counted = c.len-lane-end.ensures in
    let within : l.lane < length x.lanes.items = (let t = c.loop-lane-test.true in omega arith) in record {
      count = length-set ends c.args.worker c.join.new.self ∙ (e.0 ∙ i.count);
      ready = ready_joined c.args.job.now all c.args.worker l.lane ends x c.join.new.self c.in_ok-others.others.items ready at within c.join.ensures.job c.join.ensures.books o.0 (o.1 ∙ i.count);
    }

pub returns : goal.returns
returns c = let l = c.loop-lane in
    let first = c.args.ends.now.items in let x0 = c.index.result.now in let at0 = slice_get_read first (length first) c.args.worker x0 refl c.requires.worker c.index.ensures in
    let long0 = ready_long c.args.job.now (length first) c.args.worker 0 c.args.worker first x0 c.requires.ready at0 in let size = x0.lanes.ok in let counted = c.len-lane-end.ensures in
    let all_lanes : l.lane ≡ lane_count c.args.job.now = (let t = c.loop-lane-test.false in let u = l.auto.lane-end in omega arith) in
    (l.invariant.count, ready_next c.args.job.now (length first) c.args.worker l.ends.items (subst (λ n. Ready c.args.job.now (length first) c.args.worker n l.ends.items) all_lanes l.invariant.ready))
