use Rattle.std.proofs.Common.{◌≡◌, ◌++◌, List, [], map, refl, subst, sym, ap, ◌∙◌}
use Rattle.source_grammar.specs.declared.raw.Name.{Name}
use Rattle.source_grammar.specs.declared.raw.RawParam.{RawParam}
use Rattle.source_grammar.specs.RawTree.{RawProcedure}
use Rattle.source_grammar.specs.RawRead.{read_param}
use Rattle.source_grammar.specs.RawRead.{read_proc as read_raw_proc}
use Rattle.source_reader.specs.declared.faults.ResolveStop.{ResolveStop}
use Rattle.source_reader.specs.Names.{Env, param_ids}
use Rattle.source_reader.specs.Faults.{prio_faults, written_faults, code_faults, givens_faults, params_faults, routine_faults, inside_faults}
use Rattle.source_reader.specs.Inside.Gives.{First}
use Rattle.source_reader.specs.Inside.Known.{env_in}
use Rattle.source_reader.proofs.Lists.{gives_first, gives_second, handed_on, handed_first, handed_second}
use Rattle.source_reader.proofs.Declarations.{past}
use Rattle.source_reader.proofs.procedure.inside.Goals as goal

-- the first fault of the routine is that of the whole, where the constraints and the parameters have none
in_routine : (env : Env) (f : RawProcedure) (e : ResolveStop) {gs : List (Name × Name)} {ps qs : List RawParam} → gs ≡ f.given → givens_faults env gs 0 ≡ [] → ps ≡ qs → f.params ≡ map read_param qs
    → params_faults env (map read_param ps) [] ≡ [] → First (routine_faults env f.routine (param_ids f.params)) e → First (inside_faults env f) e
in_routine env f e given no_given params are no_param h =
    let routine = routine_faults env f.routine (param_ids f.params) in
    let none = subst (λ v. givens_faults env v 0 ≡ []) given no_given in
    let none_more = subst (λ v. params_faults env v [] ≡ []) (ap (map read_param) params ∙ sym are) no_param in
    past (inside_faults env f) (givens_faults env f.given 0) (params_faults env f.params [] ++ routine) e refl none
    (past (params_faults env f.params [] ++ routine) (params_faults env f.params []) routine e refl none_more h)

pub returns-in_err-given : goal.returns-in_err-given
returns-in_err-given c =
    let env = env_in c.args.names.now in
    let f = read_raw_proc c.args.raw.now in
    handed_first c.deref.ensures.value (inside_faults env f) (λ v. givens_faults env v 0) (params_faults env f.params [] ++ routine_faults env f.routine (param_ids f.params))
    _ _ c.in_err-given.field-0.0 _ refl c.from_residual.ensures.1 c.in_err-given.ensures

pub returns-in_err-params : goal.returns-in_err-params
returns-in_err-params c =
    let env = env_in c.args.names.now in
    let f = read_raw_proc c.args.raw.now in
    let none = subst (λ v. givens_faults env v 0 ≡ []) c.deref.ensures.value c.in_ok-given.ensures.0 in
    handed_second c.deref-2.ensures.value (inside_faults env f) (givens_faults env f.given 0) (λ v. params_faults env (map read_param v) []) (routine_faults env f.routine (param_ids f.params))
    _ _ c.in_err-params.field-0.0 _ refl none c.from_residual-in_err-params.ensures.1 c.in_err-params.ensures.faults

pub returns-in_err-own : goal.returns-in_err-own
returns-in_err-own c =
    let f = read_raw_proc c.args.raw.now in
    handed_on (inside_faults (env_in c.args.names.now) f) _ _ c.in_err-own.field-0.0 _ c.from_residual-in_err-own.ensures.1
    (in_routine (env_in c.args.names.now) f c.in_err-own.field-0.0 c.deref.ensures.value c.in_ok-given.ensures.0 c.deref-2.ensures.value refl c.in_ok-params.ensures.faults
    (gives_first _ (prio_faults (env_in c.args.names.now) f.routine.own) (written_faults (env_in c.args.names.now) f.routine.result ++ code_faults f.routine.body (env_in c.args.names.now) (param_ids f.params)) c.in_err-own.field-0.0 refl c.in_err-own.ensures))

pub returns-in_err-result : goal.returns-in_err-result
returns-in_err-result c =
    let env = env_in c.args.names.now in
    let r = (read_raw_proc c.args.raw.now).routine in
    let body = code_faults r.body env (param_ids (read_raw_proc c.args.raw.now).params) in
    handed_on (inside_faults env (read_raw_proc c.args.raw.now)) _ _ c.in_err-result.field-0.0 _ c.from_residual-in_err-result.ensures.1
    (in_routine env (read_raw_proc c.args.raw.now) c.in_err-result.field-0.0 c.deref.ensures.value c.in_ok-given.ensures.0 c.deref-2.ensures.value refl c.in_ok-params.ensures.faults
    (gives_second _ (prio_faults env r.own) (written_faults env r.result) body c.in_err-result.field-0.0 refl c.in_ok-own.ensures.0 c.in_err-result.ensures))
