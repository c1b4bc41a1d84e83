-- The segments of tasks.
use Rattle.std.specs.Prelude.{◌≡◌, ℕ, ◌+◌, ◌<◌, [], length}
use Rattle.std.specs.Option.{option_map}
use Rattle.priml_syntax.specs.Read.{read_outcome}
use Rattle.core_steps.specs.Determined.{Trace}
use Rattle.core_steps.specs.Steps.{Job, State, outcome_in}
use Rattle.core_steps.specs.Locals.{ended_with}
use Rattle.trace_book.specs.Segments.{SegmentFields}
use Rattle.task_state.specs.Tasks.{TaskFields, OnlyLast, awaited_of, has_ended, key_of}

-- the segment's events are its thread's next steps, at least one, a Spawn and an End only as the last, with its priority, and with its
-- outcome where the last is its End
pub record IsSegmentOf (job : Job) (s : SegmentFields) : Type 0 where
  pub state : State
  pub trace : Trace job s.path s.from s.events state
  pub some : 0 < length s.events
  pub only_last : OnlyLast s.events
  pub prio : s.prio ≡ state.prio
  pub outcome : option_map read_outcome s.outcome ≡ outcome_in state.phase

-- the pending steps of the task, by this worker
pub record IsSegmentFrom (t : TaskFields) (by : ℕ) (s : SegmentFields) : Type 0 where
  pub path : s.path ≡ t.local.path
  pub prio : s.prio ≡ t.local.prio
  pub from : s.from + length s.events ≡ t.local.steps
  pub events : s.events ≡ t.pending
  pub outcome : option_map read_outcome s.outcome ≡ ended_with t.local.mode
  pub worker : s.worker ≡ by

-- the same task without pending steps
pub record IsHandedOut (t t' : TaskFields) : Type 0 where
  pub pending : t'.pending ≡ []
  pub key : key_of t' ≡ key_of t
  pub prio : t'.local.prio ≡ t.local.prio
  pub fed : t'.fed ≡ t.fed
  pub awaited : awaited_of t' ≡ awaited_of t
  pub ended : has_ended t' ≡ has_ended t
