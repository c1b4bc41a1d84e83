use Rattle.std.specs.Prelude.{codes}
use Rattle.priml.specs.Lines.{flaw_text}
use Rattle.priml.proofs.Pieces.{writes-joined, first_failed}
use Rattle.priml.proofs.flaw.write_rest.Goals as goal

pub returns-in_err-write_kind-clause-bytes : goal.returns-in_err-write_kind-clause-bytes
returns-in_err-write_kind-clause-bytes g c = first_failed _ _ (flaw_text c.args.graph.now c.args.kind) (codes "\n") _ _ c.from_residual.ensures.1 c.in_err-write_kind.ensures.bytes

pub returns-clause-bytes : goal.returns-clause-bytes
returns-clause-bytes g c = writes-joined _ _ _ (flaw_text c.args.graph.now c.args.kind) (codes "\n") _ c.in_ok-write_kind.ensures.bytes c.write_all.ensures.bytes
