use Rattle.std.proofs.Common.{◌≡◌, ℕ, ◌<◌, length, get_or, Some}
use Rattle.std.specs.Prelude.{slice_get}
use Rattle.priority_order.proofs.lanes.places_of.Given as goal

abbrev pub invariant-loop-a : goal.invariant-loop-a
invariant-loop-a l = record { long : length l.places.items ≡ l.a; each : (b : ℕ) → b < l.a → slice_get l.lanes (get_or l.places.items b 0) ≡ Some b }
