use Rattle.std.specs.Prelude.{◌++◌, codes}
use Rattle.std.specs.Fmt.{decimal}
use Rattle.priml.specs.Lines.{line, flaw_text}
use Rattle.priml.proofs.Pieces.{writes-joined, first_failed}
use Rattle.priml.proofs.flaw.write_flaw.Goals as goal

pub returns-in_err-write_step-clause-bytes : goal.returns-in_err-write_step-clause-bytes
returns-in_err-write_step-clause-bytes g c = first_failed _ _ (codes "flaw: step " ++ decimal c.args.flaw.step ++ codes " ") (line (flaw_text c.args.graph.now c.args.flaw.kind)) _ _ c.from_residual.ensures.1 c.in_err-write_step.ensures.bytes

pub returns-clause-bytes : goal.returns-clause-bytes
returns-clause-bytes g c = writes-joined _ _ _ (codes "flaw: step " ++ decimal c.args.flaw.step ++ codes " ") (line (flaw_text c.args.graph.now c.args.flaw.kind)) _ c.in_ok-write_step.ensures.bytes c.write_rest.ensures.bytes
