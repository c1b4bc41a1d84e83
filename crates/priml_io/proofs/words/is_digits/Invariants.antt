use Rattle.std.proofs.Common.{take, All}
use Rattle.priml_io.specs.Words.{IsDigit}
use Rattle.priml_io.proofs.words.is_digits.Given as goal

abbrev pub invariant-loop-b : goal.invariant-loop-b
invariant-loop-b l = All IsDigit (take l.b-index l.word)
