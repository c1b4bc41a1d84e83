use Rattle.priml_io.specs.Lines.{lines}
use Rattle.inputs_text.proofs.Reading.{one-way}
use Rattle.inputs_text.proofs.inputs.read_inputs.Goals as goal

pub returns-clause-one_way : goal.returns-clause-one_way
returns-clause-one_way c = one-way (lines c.args.text.now)

pub returns-in_err-lists-clause-one_way : goal.returns-in_err-lists-clause-one_way
returns-in_err-lists-clause-one_way c = one-way (lines c.args.text.now)
