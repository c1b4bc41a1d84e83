use Rattle.std.proofs.Common.{◌≢◌, take, All}
use Rattle.inputs_text.proofs.line.cut.Given as goal

abbrev pub invariant-loop-i : goal.invariant-loop-i
invariant-loop-i l = All (λ b. b ≢ 58) (take l.i l.line)
