use Rattle.span_bound.specs.Inside.Segments.{AreSegmentsOfFirst}
use Rattle.span_bound.proofs.segments.cut_of.Given as goal

abbrev pub invariant-loop-place : goal.invariant-loop-place
invariant-loop-place l = AreSegmentsOfFirst l.graph l.along l.place l.heads.items l.lens.items l.slots.items
