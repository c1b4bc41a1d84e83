use Rattle.std.proofs.Common.{arith}
use Rattle.cost_graph.proofs.Above.{order_below, order_short}
use Rattle.span_bound.proofs.Cutting.{slot_in, len_small, extend_on, begin_on}
use Rattle.span_bound.proofs.segments.add.Goals as goal

pub follows-requires : goal.follows-requires
follows-requires c = order_below c.args.graph.now c.args.along.now c.args.place c.requires.along c.requires.place

pub extend-requires-clause-small : goal.extend-requires-clause-small
extend-requires-clause-small c =
    let small = len_small c.args.graph.now c.args.along.now c.args.heads.now.items c.args.lens.now.items c.args.slots.now.items c.args.place c.requires.along c.requires.place c.requires.cut
    (c.follows.ensures c.if-follows.true) in
    omega (arith, small, c.requires.place, order_short c.args.graph.now c.args.along.now c.requires.along, c.vertex_count-count.ensures.kept.small)

pub returns-then-follows : goal.returns-then-follows
returns-then-follows c =
    rw (c.extend.ensures.slots, c.extend.ensures.lens)
    (extend_on c.args.graph.now c.args.along.now c.args.heads.now.items c.args.lens.now.items c.args.slots.now.items c.args.place c.requires.along c.requires.place c.requires.cut
    (c.follows.ensures c.if-follows.true))

pub begin-requires-clause-within : goal.begin-requires-clause-within
begin-requires-clause-within c = slot_in c.args.graph.now c.args.along.now c.args.heads.now.items c.args.lens.now.items c.args.slots.now.items c.args.place c.requires.along c.requires.place c.requires.cut

pub begin-requires-clause-few : goal.begin-requires-clause-few
begin-requires-clause-few c = omega (arith, c.requires.cut.few, c.requires.place, order_short c.args.graph.now c.args.along.now c.requires.along, c.vertex_count-count.ensures.kept.small)

pub returns : goal.returns
returns c =
    rw (c.in_ok-begin.ensures.heads, c.in_ok-begin.ensures.lens, c.in_ok-begin.ensures.slots)
    (begin_on c.args.graph.now c.args.along.now c.args.heads.now.items c.args.lens.now.items c.args.slots.now.items c.args.place c.requires.along c.requires.place c.requires.cut)
