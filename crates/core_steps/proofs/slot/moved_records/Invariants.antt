use Rattle.std.proofs.Common.{◌≡◌, length, map}
use Rattle.std.specs.Vec.Iter.{into_iter_items, into_iter_len}
use Rattle.priml_syntax.specs.Read.{read_record}
use Rattle.core_steps.specs.Configs.{read_slot, records_from}
use Rattle.core_steps.proofs.Recorded.{behind}
use Rattle.core_steps.proofs.slot.moved_records.Given as goal

abbrev pub invariant-loop-slot : goal.invariant-loop-slot
invariant-loop-slot l =
    (records_from (map read_slot l.fn.slots.items) ≡ behind (map read_record l.list.items) (records_from (map read_slot (into_iter_items l.slot-iterator))))
    × (into_iter_len l.slot-iterator ≡ length (into_iter_items l.slot-iterator))
