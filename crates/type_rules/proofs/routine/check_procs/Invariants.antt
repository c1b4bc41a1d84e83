use Rattle.std.proofs.Common.{take, map}
use Rattle.std.specs.List.{All}
use Rattle.priml_syntax.specs.Read.{read_proc, read_program}
use Rattle.type_rules.specs.Typable.{RoutineTyped}
use Rattle.type_rules.proofs.routine.check_procs.Given as goal

abbrev pub invariant-loop-routine : goal.invariant-loop-routine
invariant-loop-routine l = All (RoutineTyped (read_program l.program)) (map read_proc (take l.routine-index l.routine-items))
