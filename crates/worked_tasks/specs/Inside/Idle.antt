-- What the worked cases keep of the tasks that they run.
use Rattle.std.specs.Prelude.{◌≡◌, ℕ, List, []}
use Rattle.priml_syntax.specs.Values.{Entry}
use Rattle.core_steps.specs.Meaning.{Finished, meaning}
use Rattle.core_steps.specs.Steps.{Job}
use Rattle.task_state.specs.Tasks.{TaskFields, OfJob}

-- the task is one of the job and has no pending step
abbrev pub IsIdle : Job → TaskFields → Type 0
IsIdle job t = OfJob job t × (t.pending ≡ [])

-- these are the records of the serial meaning
abbrev pub AreMeant : Job → List Entry → Type 0
AreMeant job rs = (n : ℕ) × (meaning job n ≡ Finished rs)
