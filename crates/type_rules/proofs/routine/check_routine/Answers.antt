use Rattle.std.proofs.Common.{sym}
use Rattle.priml_syntax.specs.Read.{read_proc, read_program}
use Rattle.type_rules.specs.Shared.{read_shared}
use Rattle.type_rules.proofs.Handed.{failed}
use Rattle.type_rules.proofs.Parts.{result_stop}
use Rattle.type_rules.proofs.routine.check_routine.Goals as goal

pub returns : goal.returns
returns c =
    result_stop (read_program c.args.program.now) (read_proc c.args.routine.now) (read_shared c.in_ok-found.found) c.fault.result c.in_ok-found.ensures
    (λ e. failed c.is_written.result c.if-is_written.false c.is_written.ensures.1 (sym e)) c.fault.ensures
