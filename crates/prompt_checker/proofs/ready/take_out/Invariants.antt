use Rattle.prompt_checker.proofs.Held.{AreOut}
use Rattle.prompt_checker.proofs.ready.take_out.Given as goal

abbrev pub invariant-loop-vertex : goal.invariant-loop-vertex
invariant-loop-vertex l = AreOut l.graph l.line.items l.fn.ready.items l.ready.items l.vertex-index
