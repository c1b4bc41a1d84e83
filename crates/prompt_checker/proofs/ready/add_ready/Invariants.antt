use Rattle.prompt_checker.proofs.Held.{AreIn}
use Rattle.prompt_checker.proofs.ready.add_ready.Given as goal

abbrev pub invariant-loop-vertex : goal.invariant-loop-vertex
invariant-loop-vertex l = AreIn l.graph l.vertices.items l.fn.ready.items l.ready.items l.vertex-index
