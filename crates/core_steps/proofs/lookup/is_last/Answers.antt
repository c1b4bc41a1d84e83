use Rattle.std.proofs.Common.{◌-◌, length, arith, sym, ◌∙◌, ap}
use Rattle.std.specs.Cmp.Lexicographic.{slice_cmp}
use Rattle.std.specs.Ordering.{is_lt, nat_cmp}
use Rattle.core_steps.specs.declared.slot.Slot.{Slot}
use Rattle.core_steps.proofs.Placed.{last_placed}
use Rattle.core_steps.proofs.lookup.is_last.Goals as goal

pub returns : goal.returns
returns c = λ e.
    last_placed c.args.slots.now c.args.path.now (length c.args.slots.now - 1) c.index-slots-count.result c.requires (omega arith) c.index-slots-count.is
    (ap (λ (s : Slot). is_lt (slice_cmp nat_cmp s.local.path c.args.path.now)) c.index-slots-count.is ∙ (ap is_lt (sym c.compare.ensures.value) ∙ (sym c.is_lt.ensures ∙ e)))
