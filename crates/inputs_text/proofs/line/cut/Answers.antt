use Rattle.std.proofs.Common.{◌+◌, arith, rules}
use Rattle.inputs_text.proofs.LineForms.{cut-at, rest-is}
use Rattle.inputs_text.proofs.line.cut.Goals as goal

pub returns-then-line-i-eq58 : goal.returns-then-line-i-eq58
returns-then-line-i-eq58 c = cut-at c.args.line.now _ c.loop-i.i (omega arith) (search rules) c.loop-i.invariant (rest-is c.args.line.now (c.loop-i.i + 1))
