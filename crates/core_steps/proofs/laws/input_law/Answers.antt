use Rattle.core_steps.proofs.SameInputs.{meaning_reads_inputs}
use Rattle.core_steps.proofs.laws.input_law.Goals as goal

pub returns : goal.returns
returns c = meaning_reads_inputs
