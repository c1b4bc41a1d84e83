use Rattle.std.specs.Prelude.{codes}
use Rattle.std.specs.Fmt.{decimal}
use Rattle.priml.proofs.Pieces.{writes-joined, first_failed}
use Rattle.priml.proofs.flaw.write_spaced.Goals as goal

pub returns-in_err-write_number-clause-bytes : goal.returns-in_err-write_number-clause-bytes
returns-in_err-write_number-clause-bytes g c = first_failed _ _ (decimal c.args.number) (codes " ") _ _ c.from_residual.ensures.1 c.in_err-write_number.ensures.bytes

pub returns-clause-bytes : goal.returns-clause-bytes
returns-clause-bytes g c = writes-joined _ _ _ (decimal c.args.number) (codes " ") _ c.in_ok-write_number.ensures.bytes c.write_all.ensures.bytes
