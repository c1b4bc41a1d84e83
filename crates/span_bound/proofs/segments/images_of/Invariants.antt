use Rattle.std.proofs.Common.{◌≡◌, take}
use Rattle.span_bound.specs.Inside.Segments.{images}
use Rattle.span_bound.proofs.segments.images_of.Given as goal

abbrev pub invariant-loop-vertex : goal.invariant-loop-vertex
invariant-loop-vertex l = (l.found.items ≡ images l.slots (take l.vertex-index l.vertices))
