use Rattle.std.proofs.Common.{rules}
use Rattle.std.proofs.lemmas.List.Sorted.{IsPartitionPoint-from_clause}
use Rattle.core_steps.proofs.Placed.{stays_before, stay_first, slot_placed}
use Rattle.core_steps.proofs.lookup.place_of.Goals as goal

pub returns-clause-place : goal.returns-clause-place
returns-clause-place c =
    slot_placed c.args.slots.now c.args.path.now c.partition_point.result c.partition_point.ensures.bound
    (IsPartitionPoint-from_clause (stays_before c.args.path.now) c.args.slots.now c.partition_point.result c.partition_point.ensures.partitioned (stay_first c.args.slots.now c.args.path.now c.requires) (λ a r g called. (search rules, search rules)))
