use Rattle.source_grammar.proofs.HeadForms.{program_made}
use Rattle.source_grammar.proofs.program.program.Goals as goal

pub returns-clause-ok : goal.returns-clause-ok
returns-clause-ok c = program_made _ _ _ _ _ c.in_ok-decls.ensures.ok c.in_ok-main.ensures.ok c.in_ok-expect_end.ensures.ok
