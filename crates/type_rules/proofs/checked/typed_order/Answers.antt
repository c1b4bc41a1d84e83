use Rattle.std.proofs.Common.{zero, [], arith}
use Rattle.priml_syntax.specs.Read.{read_proc, read_program}
use Rattle.type_rules.specs.Typable.{routine_parts}
use Rattle.type_rules.proofs.Handed.{handed}
use Rattle.type_rules.proofs.Parts.{stop_left, stop_in_pairs, stop_in_procs, stop_in_mains}
use Rattle.type_rules.proofs.checked.typed_order.Goals as goal

pub returns-in_err-order : goal.returns-in_err-order
returns-in_err-order c = handed _ _ c.in_err-order.field-0.0 _ c.from_residual.ensures.1 (stop_in_pairs (read_program c.args.program.now) c.in_err-order.field-0.0 c.in_err-order.ensures)

pub returns-in_err-check_procs : goal.returns-in_err-check_procs
returns-in_err-check_procs c =
    handed _ _ c.in_err-check_procs.field-0.0 _ c.from_residual-in_err-check_procs.ensures.1
    (stop_in_procs (read_program c.args.program.now) c.in_err-check_procs.field-0.0 c.in_ok-order.ensures.1 c.in_err-check_procs.ensures)

pub check_routine-requires-clause-scoped : goal.check_routine-requires-clause-scoped
check_routine-requires-clause-scoped c = (c.requires.mains zero (read_proc c.args.program.now.main) (omega arith)).routine

pub returns-in_err-check_routine : goal.returns-in_err-check_routine
returns-in_err-check_routine c =
    let p = read_program c.args.program.now in
    let main = read_proc c.args.program.now.main in
    handed _ _ c.in_err-check_routine.field-0.0 _ c.from_residual-in_err-check_routine.ensures.1
    (stop_in_mains p c.in_err-check_routine.field-0.0 c.in_ok-order.ensures.1 c.in_ok-check_procs.ensures
    (stop_left p (routine_parts main) [] c.in_err-check_routine.field-0.0 c.in_err-check_routine.ensures))
