use Rattle.std.proofs.Common.{◌≡◌, length}
use Rattle.source_tokens.specs.Runs.{joined}
use Rattle.source_grammar.proofs.cursor.Tokens.new.Given as goal

abbrev pub invariant-loop-run : goal.invariant-loop-run
invariant-loop-run l = joined l.later ≡ joined l.fn.runs

abbrev pub decreases-loop-run : goal.decreases-loop-run
decreases-loop-run l = length l.later
