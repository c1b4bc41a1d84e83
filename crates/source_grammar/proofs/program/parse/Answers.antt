use Rattle.source_grammar.proofs.Moves.{no_program}
use Rattle.source_grammar.proofs.Unexpected.{unexpected}
use Rattle.source_grammar.proofs.Unique.{program_unique}
use Rattle.source_grammar.proofs.program.parse.Goals as goal

pub returns-in-Ok-clause-only : goal.returns-in-Ok-clause-only
returns-in-Ok-clause-only c = λ q h. program_unique _ _ _ h (rw c.new-rest.ensures at c.in-Ok.ensures.ok)

pub returns-in-Err-Syntax-clause-none : goal.returns-in-Err-Syntax-clause-none
returns-in-Err-Syntax-clause-none c = no_program (rw (c.new-rest.ensures) at (rw c.in-Err-Syntax.field-0-is at c.in-Err-Syntax.ensures.moves))

pub returns-in-Err-Syntax-clause-unexpected : goal.returns-in-Err-Syntax-clause-unexpected
returns-in-Err-Syntax-clause-unexpected c =
    let e = rw c.in-Err-Syntax.field-0-is at c.in-Err-Syntax.ensures.moves in
    unexpected _ _ _ (rw c.new-rest.ensures at e) c.peek.ensures
