-- Tasks whose steps a seat can publish.
use Rattle.std.specs.Prelude.{◌≡◌, ℕ, ◌+◌, ◌≤◌, List, [], length, false, None}
use Rattle.core_steps.specs.Steps.{Job}
use Rattle.trace_book.specs.Segments.{SegmentFields}
use Rattle.task_state.specs.Tasks.{TaskFields, OfJob, IsStart, has_ended, read_task, most_steps}
use Rattle.task_state.specs.Turns.{WasFed}
use Rattle.task_state.specs.declared.task.Halt.{Halt}
use Rattle.task_state.specs.declared.task.Halt.TheVariants.{Spawned}
use Rattle.join_board.specs.Calls.{CanCommit}
use Rattle.join_board.specs.Threads.{PrioOf, Spawns}
use Rattle.join_board.specs.Views.{HasSeenEnd}
use Rattle.join_board.specs.declared.view.View.{View}

-- a task of the job without pending steps, to which nothing was fed
abbrev pub IsIdle : Job → TaskFields → Type 0
IsIdle job t = OfJob job t × (t.pending ≡ []) × (t.fed ≡ None)

-- the task can be run at the seat: where an outcome was fed to it the seat has seen that end
pub record CanRun (job : Job) (v : View) (t : TaskFields) : Type 0 where
  pub task : OfJob job t
  pub pending : t.pending ≡ []
  pub live : has_ended t ≡ false
  pub room : t.local.steps ≤ most_steps
  pub fed : (b : List ℕ) → WasFed t b → HasSeenEnd v b

-- the second has not started, its thread was spawned by one of the steps of the first, and has this priority
abbrev pub IsChild : Job → TaskFields → TaskFields → Type 0
IsChild job t c = IsStart job c × Spawns job t.local.path t.local.steps c.local.path × PrioOf job c.local.path c.local.prio

-- the last of the steps spawned this task's thread
abbrev pub HasChild : Job → TaskFields → Halt → Type 0
HasChild job t (Spawned c) = IsChild job t (read_task c)
HasChild job t _ = Unit {0}

-- the segment can be committed, and its steps are the last of the task's
abbrev pub LastSteps : View → TaskFields → SegmentFields → Type 0
LastSteps v t s = CanCommit v s × (s.path ≡ t.local.path) × (s.from + length s.events ≡ t.local.steps)
