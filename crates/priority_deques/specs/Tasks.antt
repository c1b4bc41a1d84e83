-- The tasks that lie in lanes.
use Rattle.std.specs.Prelude.{◌≡◌, ℕ, [], length, false, None}
use Rattle.priml_syntax.specs.Tree.{pairs_of}
use Rattle.priority_order.specs.Order.{HasLane}
use Rattle.core_steps.specs.Steps.{Job}
use Rattle.task_state.specs.Tasks.{TaskFields, OfJob, has_ended}

-- the task is one of the job that has not ended, has no pending step, and was not fed
pub record IsAtRest (job : Job) (t : TaskFields) : Type 0 where
  pub task : OfJob job t
  pub live : has_ended t ≡ false
  pub pending : t.pending ≡ []
  pub unfed : t.fed ≡ None

-- the priority has the lane in the order of the job's program
abbrev pub IsLaneOf : Job → ℕ → ℕ → Type 0
IsLaneOf job prio lane = HasLane (pairs_of job.program) (length job.program.names) prio lane

-- the task may lie in the lane of the job
pub record Fits (job : Job) (lane : ℕ) (t : TaskFields) : Type 0 where
  pub rest : IsAtRest job t
  pub of_lane : IsLaneOf job t.local.prio lane
