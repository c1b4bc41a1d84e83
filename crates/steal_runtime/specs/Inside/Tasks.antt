-- Tasks in the hands of a worker.
use Rattle.std.specs.Prelude.{ℕ, ◌<◌, ◌≤◌, length, Bool, IsSome}
use Rattle.priml_syntax.specs.Events.{AllJoins}
use Rattle.core_steps.specs.Steps.{Job}
use Rattle.task_state.specs.Tasks.{TaskFields, awaited_of}
use Rattle.priority_deques.specs.Tasks.{IsAtRest}
use Rattle.join_board.specs.Calls.{HasSeen}
use Rattle.join_board.specs.Views.{HasSeenEnd}
use Rattle.join_board.specs.declared.view.View.{View}

-- a task of the job that awaits a thread
abbrev pub AwaitsOne : Job → TaskFields → Type 0
AwaitsOne job t = IsAtRest job t × IsSome (awaited_of t)

-- the pending steps of the task are at most so many, and the worker with this view has seen the end of each thread that they join
abbrev pub CanSettle : View → ℕ → TaskFields → Type 0
CanSettle v quantum t = (length t.pending ≤ quantum) × AllJoins (HasSeenEnd v) t.pending

-- where the task had pending steps the worker has seen them on the board
abbrev pub IsSettled : View → TaskFields → Type 0
IsSettled v t = 0 < length t.pending → (b : Bool) × HasSeen v t.local.path t.local.steps b
