use Rattle.std.proofs.Common.{sym, ◌∙◌}
use Rattle.priml_syntax.specs.Read.{read_type}
use Rattle.type_rules.proofs.Written.{type_at-none}
use Rattle.type_rules.proofs.shared.Shared.is_written.Goals as goal

pub returns : goal.returns
returns c =
    let same = type_at-none (read_type c.args.t.now) in
    (λ h. sym (c.is.ensures.0 h ∙ same), λ e. c.is.ensures.1 (sym e ∙ sym same))
