use Rattle.std.specs.Prelude.{◌++◌, codes}
use Rattle.std.specs.Fmt.{decimal}
use Rattle.priml.proofs.Pieces.{writes-joined, first_failed}
use Rattle.priml.proofs.flaw.write_step.Goals as goal

pub returns-in_err-write_all-clause-bytes : goal.returns-in_err-write_all-clause-bytes
returns-in_err-write_all-clause-bytes g c = first_failed _ _ (codes "flaw: step ") (decimal c.args.step ++ codes " ") _ _ c.from_residual.ensures.1 c.in_err-write_all.ensures.bytes

pub returns-clause-bytes : goal.returns-clause-bytes
returns-clause-bytes g c = writes-joined _ _ _ (codes "flaw: step ") (decimal c.args.step ++ codes " ") _ c.in_ok-write_all.ensures.bytes c.write_spaced.ensures.bytes
