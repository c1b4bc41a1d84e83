use Rattle.std.proofs.Common.{take}
use Rattle.response_report.specs.Inside.Places.{IsRelease}
use Rattle.response_report.proofs.place.release.Given as goal

abbrev pub invariant-loop-vertex : goal.invariant-loop-vertex
invariant-loop-vertex l = IsRelease l.places.items (take l.vertex-index l.vertices) l.best
