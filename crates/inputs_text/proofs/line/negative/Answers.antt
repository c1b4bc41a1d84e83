use Rattle.inputs_text.proofs.Numbers.{negated-found}
use Rattle.inputs_text.proofs.line.negative.Goals as goal

pub returns : goal.returns
returns c = negated-found c.args.digits.now _ _ c.if-not-is_digits.ensures c.capped_value.ensures c.checked_sub_unsigned.ensures
