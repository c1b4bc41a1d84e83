-- What an order keeps, so that it answers at once.
use Rattle.std.specs.Prelude.{◌≡◌, ℕ, ◌<◌, ◌≤◌, ◌^◌, List, length, slice_get, slice_index, Some}
use Rattle.priority_order.specs.Edges.{Edges}
use Rattle.priority_order.specs.Order.{IsLawful, AreLanes, most_names}

-- place a of the second list is where a stands in the first
pub record ArePlaces (list places : List ℕ) : Type 0 where
  pub long : length places ≡ length list
  pub each : (a : ℕ) → a < length list → slice_get list (slice_index places a) ≡ Some a

-- so many names, the closure of the declared pairs, the priorities by lane, and the lanes by priority
pub record AreParts (count : ℕ) (closure : Edges) (lanes lane_of : List ℕ) : Type 0 where
  pub size : closure.size ≡ count
  pub few : count ≤ most_names
  pub short : length closure.pairs < 2 ^ 32
  pub lawful : IsLawful closure.pairs
  pub by_lane : AreLanes closure.pairs count lanes
  pub by_priority : ArePlaces lanes lane_of
