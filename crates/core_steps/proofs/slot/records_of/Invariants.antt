use Rattle.std.proofs.Common.{◌≡◌, drop, map}
use Rattle.priml_syntax.specs.Read.{read_record}
use Rattle.core_steps.specs.Configs.{read_slot, records_from}
use Rattle.core_steps.proofs.Recorded.{behind}
use Rattle.core_steps.proofs.slot.records_of.Given as goal

abbrev pub invariant-loop-slot : goal.invariant-loop-slot
invariant-loop-slot l = records_from (map read_slot l.slots) ≡ behind (map read_record l.list.items) (records_from (map read_slot (drop l.slot-index l.slots)))
