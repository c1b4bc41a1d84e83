use Rattle.source_grammar.proofs.HeadForms.{main_made}
use Rattle.source_grammar.proofs.Steps.{if_ok}
use Rattle.source_grammar.proofs.program.main.Goals as goal

pub returns-clause-ok : goal.returns-clause-ok
returns-clause-ok c = if_ok c.routine.result (λ m h. main_made _ _ _ _ _ c.in_ok-at.ensures.ok h) c.routine.ensures.ok
