-- The slots of a configuration as plain data, the threads that they stand for, and what the calls of a configuration say.
use Rattle.std.specs.Prelude.{◌≡◌, ℕ, Bool, true, false, if◌then◌else◌, ◌≤◌, List, [], ◌∷◌, ◌++◌, Option, Some, None, length, map}
use Rattle.std.specs.Option.{is_some, option_and_then, option_map}
use Rattle.std.specs.List.{AllByRecursion}
use Rattle.priml_syntax.specs.declared.event.Event.{Event}
use Rattle.priml_syntax.specs.Tree.{Tree}
use Rattle.priml_syntax.specs.Values.{Outcome', Entry}
use Rattle.priml_syntax.specs.Records.{work}
use Rattle.priml_syntax.specs.Paths.{Precedes}
use Rattle.core_steps.specs.declared.slot.Slot.{Slot}
use Rattle.core_steps.specs.declared.config.CoreStop.{CoreStop}
use Rattle.core_steps.specs.declared.config.CoreStop.TheVariants.{NoThread, Ended, Waits, OutOfMemory}
use Rattle.core_steps.specs.Fields.{LocalFields, read_local, state_of}
use Rattle.core_steps.specs.Locals.{ended_with}
use Rattle.core_steps.specs.Steps.{Job, outcome_in}
use Rattle.core_steps.specs.Config.{Thread, thread_by_path, chosen, Reached, IsFinished, WaitsOn, records_of}
use Rattle.core_steps.specs.Meaning.{meaning, Finished}
use Rattle.core_steps.specs.Determined.{HasEnded, events_of}

-- the local state of a thread, and its events
pub record SlotFields : Type 0 where
  pub local : LocalFields
  pub events : List Event

abbrev pub read_slot : Slot → SlotFields
read_slot s = record { local = read_local s.local; events = s.events.items }

abbrev pub slots_of : List Slot → List SlotFields
slots_of c = map read_slot c

-- the thread that a slot stands for; none where turns lead nowhere
abbrev pub thread_of : Tree → SlotFields → Option Thread
thread_of p s = option_map (λ x. record { state = x; events = s.events }) (state_of p s.local)

abbrev pub threads_from : Tree → List SlotFields → Option (List Thread)
threads_from p [] = Some []
threads_from p (s ∷ ss) = option_and_then (λ t. option_map (λ ts. t ∷ ts) (threads_from p ss)) (thread_of p s)

-- the threads that a configuration stands for
abbrev pub threads_of : Tree → List Slot → Option (List Thread)
threads_of p c = threads_from p (slots_of c)

-- in the order of paths, no path twice
abbrev pub SlotsRise : List SlotFields → Type 0
SlotsRise [] = Unit {0}
SlotsRise (s ∷ ss) = AllByRecursion (λ x. Precedes s.local.path x.local.path) ss × SlotsRise ss

-- a thread has made as many steps as it has events
abbrev pub IsCounted : SlotFields → Type 0
IsCounted s = s.local.steps ≡ length s.events

-- what holds of the slots of each configuration, of whatever job
pub record AreKept (ss : List SlotFields) : Type 0 where
  pub rise : SlotsRise ss
  pub counted : AllByRecursion IsCounted ss

-- the slots stand for a reached configuration of the job
pub record AreSlots (job : Job) (ss : List SlotFields) : Type 0 where
  pub threads : List Thread
  pub reads : threads_from job.program ss ≡ Some threads
  pub reached : Reached job threads
  pub counted : AllByRecursion IsCounted ss

-- and so do those of a configuration
abbrev pub IsConfig : Job → List Slot → Type 0
IsConfig job c = AreSlots job (slots_of c)

-- whether each thread has ended
abbrev pub all_end : List SlotFields → Bool
all_end [] = true
all_end (s ∷ ss) = if is_some (ended_with s.local.mode) then all_end ss else false

-- whether the thread of the path makes the next step
abbrev pub IsReady : Job → List SlotFields → List ℕ → Bool → Type 0
IsReady job ss p b = (ts : List Thread) → threads_from job.program ss ≡ Some ts → b ≡ is_some (chosen job ts p)

abbrev pub IsWaitIn : List Thread → List ℕ → Option (List ℕ) → Type 0
IsWaitIn ts p None = (b : List ℕ) → WaitsOn ts p b → ⊥
IsWaitIn ts p (Some b) = WaitsOn ts p b

-- the thread on which that of the path waits, and none where there is none
abbrev pub IsWait : Job → List SlotFields → List ℕ → Option (List ℕ) → Type 0
IsWait job ss p o = (ts : List Thread) → threads_from job.program ss ≡ Some ts → IsWaitIn ts p o

-- the thread of the path has not ended
abbrev pub IsLive : List Thread → List ℕ → Type 0
IsLive ts p = (t : Thread) × (thread_by_path ts p ≡ Some t) × (outcome_in t.state.phase ≡ None)

-- why the thread of the path made no step: of these the first three tell it exactly, and no two of them hold at once; memory is
-- wanting only where the thread is there and has not ended
abbrev pub IsStopAt : List Thread → List ℕ → CoreStop → Type 0
IsStopAt ts p NoThread = thread_by_path ts p ≡ None
IsStopAt ts p Ended = HasEnded ts p
IsStopAt ts p (Waits b) = WaitsOn ts p b
IsStopAt ts p OutOfMemory = IsLive ts p

-- the record of a slot that ended so
abbrev pub entry_from : SlotFields → Outcome' → Entry
entry_from s o = record { path = s.local.path; prio = s.local.prio; events = s.events; outcome = o }

abbrev pub entry_with : SlotFields → Option Outcome' → Option (List Entry) → Option (List Entry)
entry_with s None es = None
entry_with s (Some o) None = None
entry_with s (Some o) (Some es) = Some (entry_from s o ∷ es)

-- the records of the slots, where each has ended
abbrev pub records_from : List SlotFields → Option (List Entry)
records_from [] = Some []
records_from (s ∷ ss) = entry_with s (ended_with s.local.mode) (records_from ss)

-- the records of the threads, which are those of the serial meaning at every fuel from their work on; none where some thread has not ended
abbrev pub AreRecords : Job → List Thread → Option (List Entry) → Type 0
AreRecords job ts None = IsFinished ts → ⊥
AreRecords job ts (Some rs) = IsFinished ts × (records_of ts ≡ Some rs) × ((n : ℕ) → work rs ≤ n → meaning job n ≡ Finished rs)

-- the thread of the path made its next step, with this event, and the slots stand for what results
pub record Advanced (job : Job) (ts : List Thread) (p : List ℕ) (e : Event) (new : List SlotFields) : Type 0 where
  pub threads : List Thread
  pub chose : chosen job ts p ≡ Some threads
  pub reads : threads_from job.program new ≡ Some threads
  pub last : events_of threads p ≡ events_of ts p ++ e ∷ []

-- so it is in whatever configuration the old slots stand for
abbrev pub Advances : Job → List SlotFields → List ℕ → Event → List SlotFields → Type 0
Advances job old p e new = (ts : List Thread) → threads_from job.program old ≡ Some ts → Advanced job ts p e new

-- why it made none
abbrev pub Stops : Job → List SlotFields → List ℕ → CoreStop → Type 0
Stops job ss p stop = (ts : List Thread) → threads_from job.program ss ≡ Some ts → IsStopAt ts p stop
