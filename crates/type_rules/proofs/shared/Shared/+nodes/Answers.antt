use Rattle.std.proofs.Common.{◌≡◌, sym, ap, subst, ◌∙◌, min}
use Rattle.priml_syntax.specs.Read.{read_type}
use Rattle.priml_syntax.specs.Size.{type_nodes}
use Rattle.type_rules.specs.Shared.{read_shared}
use Rattle.type_rules.proofs.Written.{nodes-at}
use Rattle.type_rules.proofs.shared.Shared.+nodes.Goals as goal

pub returns-in-Written : goal.returns-in-Written
returns-in-Written t c =
    subst (λ s. c.nodes.result ≡ min (type_nodes (read_shared s)) 18446744073709551615) (sym c.in-Written.is)
    (c.nodes.ensures ∙ ap (λ n. min n 18446744073709551615) (sym (nodes-at c.in-Written.field-0.now (read_type c.in-Written.t.now))))
