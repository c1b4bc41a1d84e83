use Rattle.std.proofs.Common.{map}
use Rattle.inputs_text.specs.PathText.{Pairwise}
use Rattle.inputs_text.specs.InputLines.{IsNumberText}
use Rattle.inputs_text.proofs.line.read_numbers.Given as goal

abbrev pub invariant-loop-word : goal.invariant-loop-word
invariant-loop-word l = Pairwise IsNumberText (map (λ x. x.now) l.yielded) l.numbers.items
