use Rattle.inputs_text.proofs.Numbers.{value-found}
use Rattle.inputs_text.proofs.line.positive.Goals as goal

pub returns : goal.returns
returns c = value-found c.args.digits.now _ _ c.if-not-is_digits.ensures c.capped_value.ensures c.checked_add_unsigned.ensures
