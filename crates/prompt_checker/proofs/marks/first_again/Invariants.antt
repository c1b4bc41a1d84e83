use Rattle.prompt_checker.proofs.Marked.{AreNew}
use Rattle.prompt_checker.proofs.marks.first_again.Given as goal

abbrev pub invariant-loop-vertex : goal.invariant-loop-vertex
invariant-loop-vertex l = AreNew l.fn.stood.items l.line.items l.stood.items l.vertex-index
