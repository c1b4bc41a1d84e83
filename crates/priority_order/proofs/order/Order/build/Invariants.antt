use Rattle.std.proofs.Common.{◌≡◌, ℕ, ◌<◌, length, take}
use Rattle.priority_order.specs.Order.{Closes}
use Rattle.priority_order.proofs.Paths.{IsAntisymmetric}
use Rattle.priority_order.proofs.order.Order.build.Given as goal

abbrev pub invariant-loop-i : goal.invariant-loop-i
invariant-loop-i l = record {
  is : l.closure ≡ record { size = length l.names; pairs = take l.i l.pairs };
  anti : IsAntisymmetric (take l.i l.pairs);
  none : (j : ℕ) → j < l.i → Closes l.pairs j → ⊥;
}
