use Rattle.std.proofs.Common.{◌≡◌, ℕ, ◌<◌, ◌+◌, List, ◌++◌, ◌∷◌, [], length, get_or, map, drop, ap, ◌∙◌, append_assoc}
use Rattle.source_grammar.specs.declared.raw.RawParam.{RawParam}
use Rattle.source_grammar.specs.RawRead.{read_param, read_written}
use Rattle.source_reader.specs.declared.faults.What.TheVariants.{Parameters}
use Rattle.source_reader.specs.Faults.{again_faults, written_faults, params_faults}
use Rattle.source_reader.specs.Names.{Env}
use Rattle.source_reader.specs.Inside.Known.{env_in}
use Rattle.source_reader.proofs.Lists.{gives_first, gives_second, found_first}
use Rattle.source_reader.proofs.Declarations.{mapped_next}
use Rattle.source_reader.proofs.procedure.parameters.Goals as goal

-- the faults from a parameter on begin with its own
params_step : (env : Env) (xs : List RawParam) (i : ℕ) (d : RawParam) (before : List ℕ) → i < length xs → d ≡ get_or xs i d → params_faults env (map read_param xs) [] ≡ params_faults env (map read_param (drop i xs)) before
    → params_faults env (map read_param xs) [] ≡ again_faults d.name before 8 Parameters ++ (written_faults env (read_written d.ty) ++ params_faults env (map read_param (drop (i + 1) xs)) (before ++ d.name.id ∷ []))
params_step env xs i d before l is so_far =
    so_far ∙ ap (λ v. params_faults env v before) (mapped_next read_param xs i d l is)
    ∙ append_assoc (again_faults d.name before 8 Parameters) (written_faults env (read_written d.ty)) (params_faults env (map read_param (drop (i + 1) xs)) (before ++ d.name.id ∷ []))

pub returns-in_err-once-clause-faults : goal.returns-in_err-once-clause-faults
returns-in_err-once-clause-faults c =
    let step = params_step (env_in c.args.names.now) c.args.list.now c.loop-param.param-index c.param-item.result c.loop-param.scope.items c.loop-param-test.true c.param-item.is c.loop-param.invariant.faults in
    found_first _ c.in_err-once.field-0.0 _ c.from_residual.ensures.1 (gives_first _ _ _ c.in_err-once.field-0.0 step c.in_err-once.ensures.faults)

pub returns-in_err-ty-clause-faults : goal.returns-in_err-ty-clause-faults
returns-in_err-ty-clause-faults c =
    let step = params_step (env_in c.args.names.now) c.args.list.now c.loop-param.param-index c.param-item.result c.loop-param.scope.items c.loop-param-test.true c.param-item.is c.loop-param.invariant.faults in
    found_first _ c.in_err-ty.field-0.0 _ c.from_residual-in_err-ty.ensures.1 (gives_second _ _ _ _ c.in_err-ty.field-0.0 step c.in_ok-once.ensures.faults c.in_err-ty.ensures)
