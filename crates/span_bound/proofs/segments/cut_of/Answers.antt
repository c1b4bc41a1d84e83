use Rattle.std.proofs.Common.{arith}
use Rattle.span_bound.proofs.Cutting.{cut_end}
use Rattle.span_bound.proofs.segments.cut_of.Goals as goal

pub returns : goal.returns
returns c = cut_end c.args.graph.now c.args.along.now c.loop-place.heads.items c.loop-place.lens.items c.loop-place.slots.items c.loop-place.place c.requires (omega arith) c.loop-place.invariant
