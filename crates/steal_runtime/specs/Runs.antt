-- What a run of a job promises.
use Rattle.std.specs.Prelude.{◌≡◌, ℕ, ◌+◌, ◌<◌, ◌≤◌, List, [], ◌∷◌, length, Some}
use Rattle.std.specs.List.{AllByRecursion}
use Rattle.priml_syntax.specs.Values.{Entry}
use Rattle.core_steps.specs.Meaning.{Over, Finished, meaning}
use Rattle.core_steps.specs.Steps.{Job}
use Rattle.trace_book.specs.declared.segment.Cut.{Cut}
use Rattle.trace_book.specs.Book.{IsInPathOrder, NoPathTwice, entries_of, work}
use Rattle.trace_book.specs.Log.{Log}
use Rattle.steal_runtime.specs.declared.stops.RunStop.{RunStop}
use Rattle.steal_runtime.specs.declared.stops.RunStop.TheVariants.{StepLimit, OutOfMemory}

-- the cuts lead from n steps to m without gap, each of 1 to quantum steps and by one of the workers
abbrev pub CutsCover : ℕ → ℕ → ℕ → List Cut → ℕ → Type 0
CutsCover workers quantum n [] m = n ≡ m
CutsCover workers quantum n (c ∷ cs) m =
    (c.from ≡ n) × (0 < c.steps) × (c.steps ≤ quantum) × (c.worker < workers)
    × CutsCover workers quantum (n + c.steps) cs m

-- the log of a thread is of cuts by the workers
abbrev pub IsCutByWorkers : ℕ → ℕ → Log → Type 0
IsCutByWorkers workers quantum l = CutsCover workers quantum 0 l.cuts (length l.events)

-- the logs are those of a whole run on so many workers: one for each thread, in the order of their paths the records of the serial meaning, with at most
-- `limit` steps
pub record IsRun (job : Job) (workers quantum limit : ℕ) (logs : List Log) : Type 0 where
  pub records : List Entry
  pub agree : (ls : List Log) → IsInPathOrder logs ls → entries_of ls ≡ Some records
  pub meant : (n : ℕ) → work logs ≤ n → meaning job n ≡ Finished records
  pub apart : NoPathTwice logs
  pub few : work logs ≤ limit
  pub cuts : AllByRecursion (IsCutByWorkers workers quantum) logs

-- the work of the job exceeds the limit, and so does the number that is told
abbrev pub IsStop : Job → ℕ → RunStop → Type 0
IsStop job limit (StepLimit n) = (limit < n) × (meaning job limit ≡ Over)
IsStop job limit OutOfMemory = Unit {0}
