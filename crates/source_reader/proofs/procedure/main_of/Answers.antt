use Rattle.std.proofs.Common.{refl, ◌++◌, []}
use Rattle.source_grammar.specs.RawRead.{read_main}
use Rattle.source_reader.specs.Faults.{prio_faults, written_faults, code_faults, main_faults}
use Rattle.source_reader.specs.Inside.Known.{env_in}
use Rattle.source_reader.proofs.Lists.{gives_first, gives_second, handed_on}
use Rattle.source_reader.proofs.procedure.main_of.Goals as goal

pub returns-in_err-own : goal.returns-in_err-own
returns-in_err-own c =
    let env = env_in c.args.names.now in
    let m = read_main c.args.raw.now in
    let e = c.in_err-own.field-0.0 in
    handed_on (main_faults env m) _ _ e _ c.from_residual.ensures.1 (gives_first (main_faults env m) (prio_faults env m.own) (written_faults env m.result ++ code_faults m.body env []) e refl c.in_err-own.ensures)

pub returns-in_err-result : goal.returns-in_err-result
returns-in_err-result c =
    let env = env_in c.args.names.now in
    let m = read_main c.args.raw.now in
    let e = c.in_err-result.field-0.0 in
    handed_on (main_faults env m) _ _ e _ c.from_residual-in_err-result.ensures.1
    (gives_second (main_faults env m) (prio_faults env m.own) (written_faults env m.result) (code_faults m.body env []) e refl c.in_ok-own.ensures.0 c.in_err-result.ensures)
