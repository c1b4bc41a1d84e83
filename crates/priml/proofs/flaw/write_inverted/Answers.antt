use Rattle.std.specs.Prelude.{codes}
use Rattle.priml.specs.Lines.{at_vertex}
use Rattle.priml.proofs.Pieces.{first_failed}
use Rattle.priml.proofs.flaw.write_inverted.Goals as goal

pub returns-in_err-write_at-clause-bytes : goal.returns-in_err-write_at-clause-bytes
returns-in_err-write_at-clause-bytes g c = first_failed _ _ (at_vertex (codes "inverted ") c.args.graph.now c.args.v) (at_vertex (codes " ") c.args.graph.now c.args.u) _ _ c.from_residual.ensures.1 c.in_err-write_at.ensures.bytes
