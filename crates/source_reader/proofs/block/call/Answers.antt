use Rattle.std.proofs.Common.{◌++◌, map, refl, ap}
use Rattle.source_grammar.specs.RawRead.{read_expr}
use Rattle.source_reader.specs.Faults.{prios_faults, terms_faults}
use Rattle.source_reader.specs.Inside.Known.{env_in}
use Rattle.source_reader.proofs.Lists.{gives_first, handed_on}
use Rattle.source_reader.proofs.block.call.Goals as goal

pub returns-in_err-number : goal.returns-in_err-number
returns-in_err-number c = handed_on _ _ _ c.in_err-number.field-0.0 _ c.from_residual.ensures.1 (gives_first _ _ _ c.in_err-number.field-0.0 refl c.in_err-number.ensures)

pub returns-in_err-given : goal.returns-in_err-given
returns-in_err-given c =
    let env = env_in c.args.names.now in
    let given = prios_faults env c.args.given.now in
    let more = terms_faults env (map read_expr c.args.arguments.now) c.args.scope.now in
    handed_on _ _ _ c.in_err-given.field-0.0 _ c.from_residual-in_err-given.ensures.1
    (gives_first _ given more c.in_err-given.field-0.0 (ap (λ v. v ++ (given ++ more)) c.in_ok-number.ensures.0) c.in_err-given.ensures)
