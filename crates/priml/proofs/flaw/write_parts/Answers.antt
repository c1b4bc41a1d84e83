use Rattle.std.specs.Fmt.{decimal}
use Rattle.std.specs.List.{flat_map}
use Rattle.priml_syntax.specs.Text.{dotted}
use Rattle.priml.proofs.Pieces.{writes-joined, first_failed}
use Rattle.priml.proofs.flaw.write_parts.Goals as goal

pub returns-in_err-write_marked-clause-bytes : goal.returns-in_err-write_marked-clause-bytes
returns-in_err-write_marked-clause-bytes g c = first_failed _ _ (decimal c.args.first) (flat_map dotted c.args.rest.now) _ _ c.from_residual.ensures.1 c.in_err-write_marked.ensures.bytes

pub returns-clause-bytes : goal.returns-clause-bytes
returns-clause-bytes g c = writes-joined _ _ _ (decimal c.args.first) (flat_map dotted c.args.rest.now) _ c.in_ok-write_marked.ensures.bytes c.write_dotted.ensures.bytes
