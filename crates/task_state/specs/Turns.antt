-- What a run of a task does, and why it comes to its end.
use Rattle.std.specs.Prelude.{◌≡◌, ℕ, ◌+◌, ◌<◌, ◌≤◌, List, [], ◌∷◌, ◌++◌, length, true, false, Some, None, IsSome}
use Rattle.std.specs.List.{AllByRecursion}
use Rattle.priml_syntax.specs.declared.event.Event.{Event}
use Rattle.priml_syntax.specs.declared.event.Event.TheVariants.{Spawn, End}
use Rattle.priml_syntax.specs.Events.{AllJoins}
use Rattle.priml_syntax.specs.Paths.{child_path}
use Rattle.core_steps.specs.Steps.{Job}
use Rattle.task_state.specs.Tasks.{TaskFields, OfJob, IsStart, awaits_in, awaited_of, goes_on, has_ended, read_task}
use Rattle.task_state.specs.declared.task.Halt.{Halt}
use Rattle.task_state.specs.declared.task.Halt.TheVariants.{Ended, Spawned, Wants, Spent}

-- the task awaited that thread, and its outcome was fed
abbrev pub WasFed : TaskFields → List ℕ → Type 0
WasFed t b = IsSome t.fed × (awaits_in t ≡ Some b)

-- at most so many steps of the task's thread, which joined no thread but the one whose outcome was fed; the first of them used that up
pub record Turn (job : Job) (quantum : ℕ) (t t' : TaskFields) : Type 0 where
  pub task : OfJob job t'
  pub few : length t'.pending ≤ quantum
  pub path : t'.local.path ≡ t.local.path
  pub prio : t'.local.prio ≡ t.local.prio
  pub steps : t'.local.steps ≡ t.local.steps + length t'.pending
  pub joins : AllJoins (WasFed t) t'.pending
  pub still : length t'.pending ≡ 0 → (awaits_in t' ≡ awaits_in t) × (t'.fed ≡ t.fed)
  pub used : 0 < length t'.pending → t'.fed ≡ None

-- the last of the steps did this
abbrev pub LastIs : Event → List Event → Type 0
LastIs e es = (ds : List Event) × (es ≡ ds ++ e ∷ [])

-- no step spawned or ended a thread
abbrev pub AllGoOn : List Event → Type 0
AllGoOn = AllByRecursion (λ e. goes_on e ≡ true)

-- the task of the last thread that the task's thread has spawned, which has not started
pub record IsLastChild (job : Job) (t c : TaskFields) : Type 0 where
  pub start : IsStart job c
  pub number : ℕ
  pub children : t.local.children ≡ number + 1
  pub path : c.local.path ≡ child_path t.local.path number

-- the task stands after a run of at most so many steps that came to its end for this reason
abbrev pub Halts : Job → ℕ → TaskFields → Halt → Type 0
Halts job n t Ended = LastIs End t.pending × (has_ended t ≡ true)
Halts job n t (Spawned c) = LastIs Spawn t.pending × (has_ended t ≡ false) × IsLastChild job t (read_task c)
Halts job n t Wants = AllGoOn t.pending × (has_ended t ≡ false) × (length t.pending < n) × IsSome (awaited_of t)
Halts job n t Spent = AllGoOn t.pending × (has_ended t ≡ false) × (length t.pending ≡ n)
