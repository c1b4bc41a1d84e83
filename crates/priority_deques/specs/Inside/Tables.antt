-- The lanes of priorities as a list.
use Rattle.std.specs.Prelude.{◌≡◌, ℕ, ◌<◌, ◌≤◌, List, length, slice_get, Some}
use Rattle.type_rules.specs.Jobs.{WithInputs}
use Rattle.priority_order.specs.Order.{most_names}
use Rattle.core_steps.specs.Laws.{IsChecked}
use Rattle.core_steps.specs.Moves.{read_job}
use Rattle.priority_deques.specs.Ends.{lane_count}
use Rattle.priority_deques.specs.Tasks.{IsLaneOf}

-- the lane of each priority of a checked job
pub record IsLaneTable (job : WithInputs) (table : List ℕ) : Type 0 where
  pub checked : IsChecked (read_job job)
  pub long : length table ≡ lane_count job
  pub few : lane_count job ≤ most_names
  pub each : (p k : ℕ) → slice_get table p ≡ Some k → IsLaneOf (read_job job) p k × (k < lane_count job)
