use Rattle.source_grammar.proofs.Forms.{name_made}
use Rattle.source_grammar.proofs.Steps.{if_ok}
use Rattle.source_grammar.proofs.list.NameItem.item.Goals as goal

pub returns-clause-ok : goal.returns-clause-ok
returns-clause-ok c = if_ok c.name.result (λ n e. name_made _ _ n e) c.name.ensures.ok
