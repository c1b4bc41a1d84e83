use Rattle.std.proofs.Common.{ℕ, ◌<◌, get_or}
use Rattle.prompt_checker.specs.Inside.Watch.{IsEarly}
use Rattle.prompt_checker.proofs.marks.first_early.Given as goal

abbrev pub invariant-loop-vertex : goal.invariant-loop-vertex
invariant-loop-vertex l = (k : ℕ) → k < l.vertex-index → IsEarly l.frontier.graph l.frontier.ran k (get_or l.line.items k 0) → ⊥
