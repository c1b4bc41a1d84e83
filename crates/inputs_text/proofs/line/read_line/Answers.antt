use Rattle.inputs_text.proofs.LineForms.{bad-uncut, bad-path, bad-numbers}
use Rattle.inputs_text.proofs.line.read_line.Goals as goal

pub returns-in_default : goal.returns-in_default
returns-in_default c = bad-uncut c.args.line.now c.if-says_nothing.ensures c.in_default.ensures

pub returns-in_default-2 : goal.returns-in_default-2
returns-in_default-2 c =
    bad-path c.args.line.now c.in-Some.path.now c.in-Some.numbers.now c.if-says_nothing.ensures c.in-Some.ensures (rw c.in_default-2.is at c.in_ok-path.ensures)

pub returns-in_default-3 : goal.returns-in_default-3
returns-in_default-3 c =
    bad-numbers c.args.line.now c.in-Some.path.now c.in-Some.numbers.now c.if-says_nothing.ensures c.in-Some.ensures (rw c.in_default-3.is at c.in_ok-numbers.ensures)
