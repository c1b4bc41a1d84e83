use Rattle.priml_syntax.specs.Read.{read_code, read_program}
use Rattle.core_steps.specs.Fields.{read_frame}
use Rattle.core_steps.proofs.Coming.{comes_in_frame}
use Rattle.core_steps.proofs.frame.Frame.coming.Goals as goal

pub returns-in-Some-clause-comes : goal.returns-in-Some-clause-comes
returns-in-Some-clause-comes c = comes_in_frame (read_program c.args.program.now) (read_frame c.args.self.now) (read_code c.in-Some.block.now) c.coming_in.result c.in-Some.ensures c.coming_in.ensures.comes
