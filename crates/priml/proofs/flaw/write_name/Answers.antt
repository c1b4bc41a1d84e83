use Rattle.std.specs.Prelude.{◌++◌, codes}
use Rattle.std.specs.Fmt.{decimal}
use Rattle.priml_syntax.specs.Text.{path_text}
use Rattle.priml.proofs.Pieces.{writes-joined, first_failed}
use Rattle.priml.proofs.flaw.write_name.Goals as goal

pub returns-in_err-write_path-clause-bytes : goal.returns-in_err-write_path-clause-bytes
returns-in_err-write_path-clause-bytes g c = first_failed _ _ (path_text c.args.parts.now) (codes ":" ++ decimal c.args.number) _ _ c.from_residual.ensures.1 c.in_err-write_path.ensures.bytes

pub returns-clause-bytes : goal.returns-clause-bytes
returns-clause-bytes g c = writes-joined _ _ _ (path_text c.args.parts.now) (codes ":" ++ decimal c.args.number) _ c.in_ok-write_path.ensures.bytes c.write_marked.ensures.bytes
