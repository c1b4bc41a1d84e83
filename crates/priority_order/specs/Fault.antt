-- Why names and pairs make no order.
use Rattle.std.specs.Prelude.{ℕ, ◌<◌, ◌≤◌, List}
use Rattle.priority_order.specs.declared.order.OrderFault.{OrderFault}
use Rattle.priority_order.specs.declared.order.OrderFault.TheVariants.{Cycle, TooMany, OutOfMemory}
use Rattle.priority_order.specs.Order.{Pair, IsLawful, IsFirstCycle, most_names}

-- the cause of a fault, of so many names and these pairs; want of memory has none that can be told
abbrev pub IsCause : ℕ → List Pair → OrderFault → Type 0
IsCause count pairs (Cycle i) = (count ≤ most_names) × IsFirstCycle pairs i × (IsLawful pairs → ⊥)
IsCause count pairs TooMany = most_names < count
IsCause count pairs OutOfMemory = Unit {0}
