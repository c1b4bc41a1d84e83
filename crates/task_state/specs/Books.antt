-- Books that read as a configuration.
use Rattle.std.specs.Prelude.{◌≡◌, ℕ, ◌≤◌, List, Some}
use Rattle.std.specs.List.{Contains}
use Rattle.std.specs.Option.{option_map}
use Rattle.priml_syntax.specs.Read.{read_outcome}
use Rattle.priml_syntax.specs.Records.{work as work_of_records}
use Rattle.priml_syntax.specs.Values.{Entry}
use Rattle.core_steps.specs.Config.{Thread, IsFinished, Reached}
use Rattle.core_steps.specs.Meaning.{Finished, meaning}
use Rattle.core_steps.specs.Steps.{Job, outcome_in}
use Rattle.trace_book.specs.Book.{IsInPathOrder, entries_of, work}
use Rattle.trace_book.specs.Log.{Log}

-- the log is that of the thread: its path and priority, its events so far, and how it ended, where it has
pub record IsLogOf (t : Thread) (l : Log) : Type 0 where
  pub path : l.path ≡ t.state.path
  pub prio : l.prio ≡ t.state.prio
  pub events : l.events ≡ t.events
  pub outcome : option_map read_outcome l.outcome ≡ outcome_in t.state.phase

-- the logs are those of the threads of the configuration
pub record ReadAs (logs : List Log) (c : List Thread) : Type 0 where
  pub each : (t : Thread) → Contains c t → (l : Log) × Contains logs l × IsLogOf t l
  pub only : (l : Log) → Contains logs l → (t : Thread) × Contains c t × IsLogOf t l

-- where the logs of a book read as a finished configuration, its records are those of the serial meaning, with each fuel from its work on
abbrev pub FinishedBooksAgree : Job → Type 0
FinishedBooksAgree job =
    (c : List Thread) (logs ls : List Log) (n : ℕ) → Reached job c → IsFinished c → ReadAs logs c → IsInPathOrder logs ls → work logs ≤ n →
    (rs : List Entry) × (entries_of ls ≡ Some rs) × (meaning job n ≡ Finished rs) × (work_of_records rs ≡ work logs)
