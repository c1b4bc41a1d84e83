use Rattle.std.proofs.Common.{◌+◌, ◌++◌, ◌∷◌, [], drop, get_or, ap, ◌∙◌}
use Rattle.source_grammar.specs.declared.raw.Name.{Name}
use Rattle.source_reader.specs.declared.faults.What.TheVariants.{PrioVars}
use Rattle.source_reader.specs.Faults.{again_faults, vars_faults}
use Rattle.source_reader.proofs.Lists.{gives_first, handed_on}
use Rattle.source_reader.proofs.Walk.{next_of}
use Rattle.source_reader.proofs.procedure.variables.Goals as goal

pub returns-in_err-once-clause-gives : goal.returns-in_err-once-clause-gives
returns-in_err-once-clause-gives c =
    let ns = c.args.list.now in
    let i = c.loop-name.name-index in
    let d : Name = record { at = 0; id = 0 } in
    let n = get_or ns i d in
    let before = c.loop-name.vars.items in
    let e = c.in_err-once.field-0.0 in
    handed_on (vars_faults ns []) _ _ e _ c.from_residual.ensures.1
    (gives_first (vars_faults ns []) (again_faults n before 8 PrioVars) (vars_faults (drop (i + 1) ns) (before ++ n.id ∷ [])) e (c.loop-name.invariant.faults ∙ ap (λ v. vars_faults v before) (next_of ns i d c.loop-name-test.true)) c.in_err-once.ensures.faults)
