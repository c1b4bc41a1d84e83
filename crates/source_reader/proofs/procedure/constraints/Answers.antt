use Rattle.std.proofs.Common.{◌+◌, length, drop, get_or, ap, ◌∙◌}
use Rattle.source_grammar.specs.declared.raw.Name.{Name}
use Rattle.source_reader.specs.Faults.{givens_faults, given_faults}
use Rattle.source_reader.specs.Inside.Known.{env_in}
use Rattle.source_reader.proofs.Lists.{gives_first, handed_on}
use Rattle.source_reader.proofs.Walk.{next_of}
use Rattle.source_reader.proofs.procedure.constraints.Goals as goal

pub returns-in_err-constrain : goal.returns-in_err-constrain
returns-in_err-constrain c =
    let gs = c.args.list.now in
    let i = c.loop-low.low-index in
    let d : Name × Name = (record { at = 0; id = 0 }, record { at = 0; id = 0 }) in
    let env = env_in c.args.names.now in
    let have = length c.loop-low.all.items in
    let e = c.in_err-constrain.field-0.0 in
    handed_on (givens_faults env gs 0) _ _ e _ c.from_residual.ensures.1
    (gives_first (givens_faults env gs 0) (given_faults env (get_or gs i d) have) (givens_faults env (drop (i + 1) gs) (have + 1)) e (c.loop-low.invariant.faults ∙ ap (λ v. givens_faults env v have) (next_of gs i d c.loop-low-test.true)) c.in_err-constrain.ensures.faults)
