use Rattle.std.proofs.Common.{◌≡◌, drop, map}
use Rattle.core_steps.specs.Configs.{all_end, read_slot}
use Rattle.core_steps.proofs.slot.each_ended.Given as goal

abbrev pub invariant-loop-slot : goal.invariant-loop-slot
invariant-loop-slot l = all_end (map read_slot l.slots) ≡ all_end (map read_slot (drop l.slot-index l.slots))
