-- The rule of one deque: what it holds, and what its passes have put and taken.
use Rattle.std.specs.Prelude.{◌≡◌, ℕ, ◌+◌, ◌⊎◌, List, [], ◌∷◌, ◌++◌, map, Some, None}
use Rattle.std.specs.List.{AllByRecursion}
use mathlib.Core.Option.{some}
use lib.ListN.{get_elem?}
use Rattle.type_rules.specs.Jobs.{WithInputs}
use Rattle.core_steps.specs.Moves.{read_job}
use Rattle.task_state.specs.declared.task.Task.{Task}
use Rattle.task_state.specs.Sums.{total}
use Rattle.task_state.specs.Tasks.{TaskKey, key_of, read_task}
use Rattle.priority_deques.specs.declared.view.LaneView.{LaneView}
use Rattle.priority_deques.specs.Tasks.{Fits}

abbrev pub key : Task → TaskKey
key t = key_of (read_task t)

-- the first pass of a deque, before the deque has its job and its lane
abbrev pub unnamed : LaneView
unnamed = record { job = None; lane = 0; put = []; taken = [] }

-- a pass that has put and taken nothing
abbrev pub newcomer : WithInputs → ℕ → LaneView
newcomer job lane = record { job = Some job; lane = lane; put = []; taken = [] }

-- the tasks may lie in the lane of the job
abbrev pub AllFit : WithInputs → ℕ → List Task → Type 0
AllFit job lane = AllByRecursion (λ t. Fits (read_job job) lane (read_task t))

-- so it is with each pass
abbrev pub Each : (LaneView → Type 0) → List LaneView → Type 0
Each F views = (j : ℕ) (v : LaneView) → get_elem? views j ≡ some v → F v

-- each key was put as often as it was taken or is in the deque, however keys are weighed
abbrev pub Balanced : List Task → List LaneView → Type 0
Balanced items views = (h : TaskKey → ℕ) → total (λ v. total h v.put) views ≡ total (λ v. total h v.taken) views + total (λ t. h (key t)) items

-- the deque is one of this lane of this job: so are its tasks and all its passes, and no task is lost or doubled
pub record IsLaneDeque (job : WithInputs) (lane : ℕ) (items : List Task) (views : List LaneView) : Type 0 where
  pub fit : AllFit job lane items
  pub named : Each (λ v. (v.job ≡ Some job) × (v.lane ≡ lane)) views
  pub balanced : Balanced items views

-- the rule: the deque was just made, is empty and has its first pass alone, or it is one of a lane of a job
abbrev pub Kept : List Task → List LaneView → Type 0
Kept items views = ((items ≡ []) × (views ≡ unnamed ∷ [])) ⊎ ((job : WithInputs) × (lane : ℕ) × IsLaneDeque job lane items views)

abbrev pub keys : List Task → List TaskKey
keys = map key

-- the pass has put the tasks
abbrev pub HasPut : LaneView → List Task → LaneView → Type 0
HasPut v xs w = w ≡ record v { put = v.put ++ keys xs }

-- the pass has taken the tasks, which fit the deque
abbrev pub HasTaken : LaneView → List Task → LaneView → Type 0
HasTaken v xs w = (w ≡ record v { taken = v.taken ++ keys xs }) × ((job : WithInputs) → v.job ≡ Some job → AllFit job v.lane xs)
