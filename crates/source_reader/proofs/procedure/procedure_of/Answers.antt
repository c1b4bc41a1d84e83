use Rattle.std.proofs.Common.{◌≡◌, ◌∙◌, [], refl, ap, subst}
use Rattle.source_grammar.specs.RawRead.{read_proc as read_raw_proc}
use Rattle.source_reader.specs.Names.{ids, with_vars}
use Rattle.source_reader.specs.Faults.{vars_faults, procedure_faults, inside_faults}
use Rattle.source_reader.specs.Inside.Gives.{First}
use Rattle.source_reader.specs.Inside.Known.{env_in}
use Rattle.source_reader.proofs.Lists.{gives_first, handed_on}
use Rattle.source_reader.proofs.Declarations.{past}
use Rattle.source_reader.proofs.procedure.procedure_of.Goals as goal

pub returns-in_err-names-clause-gives : goal.returns-in_err-names-clause-gives
returns-in_err-names-clause-gives c =
    let env = env_in c.args.names.now in
    let f = read_raw_proc c.args.raw.now in
    let e = c.in_err-names.field-0.0 in
    handed_on (procedure_faults env f) _ _ e _ c.from_residual.ensures.1
    (gives_first (procedure_faults env f) (vars_faults f.vars []) (inside_faults (with_vars env f.vars) f) e refl (subst (λ v. First (vars_faults v []) e) c.deref.ensures.value c.in_err-names.ensures.gives))

pub returns-in_err-proc-clause-gives : goal.returns-in_err-proc-clause-gives
returns-in_err-proc-clause-gives c =
    let env = env_in c.args.names.now in
    let f = read_raw_proc c.args.raw.now in
    let e = c.in_err-proc.field-0.0 in
    let none : vars_faults f.vars [] ≡ [] = subst (λ v. vars_faults v [] ≡ []) c.deref.ensures.value c.in_ok-names.ensures.gives.0 in
    let same : c.in_ok-names.field-0.items ≡ ids f.vars = c.in_ok-names.ensures.gives.1 ∙ ap ids c.deref.ensures.value in
    handed_on (procedure_faults env f) _ _ e _ c.from_residual-in_err-proc.ensures.1
    (past (procedure_faults env f) (vars_faults f.vars []) (inside_faults (with_vars env f.vars) f) e refl none
    (subst (λ v. First (inside_faults (record { prios = env.prios; vars = v; procs = env.procs }) f) e) same c.in_err-proc.ensures))
