use Rattle.std.proofs.Common.{map}
use Rattle.inputs_text.specs.PathText.{Pairwise, IsPartText}
use Rattle.inputs_text.proofs.path.read_parts.Given as goal

abbrev pub invariant-loop-part : goal.invariant-loop-part
invariant-loop-part l = Pairwise IsPartText (map (λ x. x.now) l.yielded) l.parts.items
