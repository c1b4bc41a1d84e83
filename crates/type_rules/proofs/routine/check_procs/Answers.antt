use Rattle.std.proofs.Common.{map, sym, subst}
use Rattle.std.specs.List.{All}
use Rattle.priml_syntax.specs.Read.{read_proc, read_program}
use Rattle.priml_syntax.specs.Scoped.{RoutineIn}
use Rattle.type_rules.specs.Typable.{RoutineTyped, routines_parts}
use Rattle.type_rules.specs.Stops.{PartsStop}
use Rattle.type_rules.proofs.Handed.{handed}
use Rattle.type_rules.proofs.Parts.{stop_at, typed_more, typed_all, scoped_at}
use Rattle.type_rules.proofs.routine.check_procs.Goals as goal

pub check_routine-requires-clause-scoped : goal.check_routine-requires-clause-scoped
check_routine-requires-clause-scoped c =
    let p = read_program c.args.program.now in
    let fs = c.deref-routine-items.result.now in
    scoped_at p fs c.loop-routine.routine-index c.routine-item.result c.loop-routine-test.true c.routine-item.is
    (subst (λ gs. All (RoutineIn p) (map read_proc gs)) (sym c.deref-routine-items.ensures.value) c.requires.scoped.procs)

pub returns-in_err-check_routine : goal.returns-in_err-check_routine
returns-in_err-check_routine c =
    let p = read_program c.args.program.now in
    let fs = c.deref-routine-items.result.now in
    handed _ _ c.in_err-check_routine.field-0.0 _ c.from_residual.ensures.1
    (subst (λ gs. PartsStop p (routines_parts (map read_proc gs)) c.in_err-check_routine.field-0.0) c.deref-routine-items.ensures.value
    (stop_at p fs c.loop-routine.routine-index c.routine-item.result c.in_err-check_routine.field-0.0 c.loop-routine-test.true c.routine-item.is c.loop-routine.invariant c.in_err-check_routine.ensures))

pub loop-routine-preserved : goal.loop-routine-preserved
loop-routine-preserved c =
    typed_more (read_program c.args.program.now) c.deref-routine-items.result.now c.loop-routine.routine-index c.routine-item.result c.loop-routine-test.true c.routine-item.is c.loop-routine.invariant c.in_ok-check_routine.ensures

pub returns : goal.returns
returns c =
    let p = read_program c.args.program.now in
    subst (λ gs. All (RoutineTyped p) (map read_proc gs)) c.deref-routine-items.ensures.value
    (typed_all p c.deref-routine-items.result.now c.loop-routine.routine-index c.loop-routine-test.false c.loop-routine.invariant)
