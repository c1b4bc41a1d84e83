use Rattle.priml_syntax.specs.Read.{read_type}
use Rattle.type_rules.proofs.Written.{type_at-none}
use Rattle.type_rules.proofs.shared.Shared.written.Goals as goal

pub returns : goal.returns
returns c = type_at-none (read_type c.args.t.now)
