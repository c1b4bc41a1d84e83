use Rattle.std.proofs.Common.{arith, ◌∙◌, ap}
use Rattle.core_steps.specs.declared.slot.Slot.{Slot}
use Rattle.core_steps.proofs.Searched.{stands_there}
use Rattle.core_steps.proofs.lookup.stands_at.Goals as goal

pub returns : goal.returns
returns c = λ e. stands_there c.args.slots.now c.args.path.now c.args.at c.index-slots-at.result c.requires (omega (arith, c.if-at-slots.false)) c.index-slots-at.is (ap (λ (s : Slot). s.local.path) c.index-slots-at.is ∙ c.equals.ensures.0 e)
