-- Tasks as plain data, and the states of threads that they stand for.
use Rattle.std.specs.Prelude.{◌≡◌, ℕ, ◌+◌, ◌^◌, List, [], ◌∷◌, length, Bool, true, false, ◌||◌, Option, Some, None, is_some}
use Rattle.std.specs.Option.{option_map}
use Rattle.priml_syntax.specs.declared.event.Event.{Event}
use Rattle.priml_syntax.specs.declared.event.Event.TheVariants.{Spawn, End}
use Rattle.priml_syntax.specs.Values.{Outcome'}
use Rattle.priml_syntax.specs.Read.{read_outcome}
use Rattle.core_steps.specs.Determined.{Fed, Trace}
use Rattle.core_steps.specs.Fields.{LocalFields, read_local, state_of}
use Rattle.core_steps.specs.Locals.{awaited_at, ended_with}
use Rattle.core_steps.specs.Steps.{Job, State, awaits, outcome_in}
use Rattle.task_state.specs.declared.task.Task.{Task}

-- the most steps of a thread whose task is run
abbrev pub most_steps : ℕ
most_steps = 2 ^ 59

-- the local state, the pending steps, what was fed, the variable whose thread the next step awaits, the path for the next
-- segment, and whether the outcome was handed out
pub record TaskFields : Type 0 where
  pub local : LocalFields
  pub pending : List Event
  pub fed : Option Outcome'
  pub variable : Option ℕ
  pub name : Option (List ℕ)
  pub over : Bool

abbrev pub read_task : Task → TaskFields
read_task t = record {
  local = read_local t.local.value;
  pending = t.pending.items;
  fed = option_map read_outcome t.fed;
  variable = t.variable;
  name = t.name;
  over = t.over;
}

-- the task of a thread that has not started
abbrev pub begun : LocalFields → TaskFields
begun l = record { local = l; pending = []; fed = None; variable = None; name = None; over = false }

-- what tells tasks apart: the thread, and how many steps it has made
pub record TaskKey : Type 0 where
  pub path : List ℕ
  pub steps : ℕ

abbrev pub key_of : TaskFields → TaskKey
key_of t = record { path = t.local.path; steps = t.local.steps }

-- the thread that the next step awaits
abbrev pub awaits_in : TaskFields → Option (List ℕ)
awaits_in t = awaited_at t.local.top t.variable

abbrev pub unfed : Option Outcome' → Option (List ℕ) → Option (List ℕ)
unfed None b = b
unfed (Some o) b = None

-- the same, where its outcome was not fed
abbrev pub awaited_of : TaskFields → Option (List ℕ)
awaited_of t = unfed t.fed (awaits_in t)

-- the outcome was handed out, or is there
abbrev pub has_ended : TaskFields → Bool
has_ended t = t.over || is_some (ended_with t.local.mode)

-- the event is neither a Spawn nor an End
abbrev pub goes_on : Event → Bool
goes_on Spawn = false
goes_on End = false
goes_on e = true

-- a Spawn and an End stand only as the last
abbrev pub OnlyLast : List Event → Type 0
OnlyLast [] = Unit {0}
OnlyLast (e ∷ []) = Unit {0}
OnlyLast (e ∷ f ∷ es) = (goes_on e ≡ true) × OnlyLast (f ∷ es)

-- the fields stand for the state; where its outcome was handed out, for one that has ended
abbrev pub Stands : Job → LocalFields → Bool → State → Type 0
Stands job l false s = state_of job.program l ≡ Some s
Stands job l true s = (s.path ≡ l.path) × (s.prio ≡ l.prio) × ((o : Outcome') × (outcome_in s.phase ≡ Some o))

-- what was fed is the outcome of the thread that the next step awaits
abbrev pub IsFedRight : Job → State → Option Outcome' → Type 0
IsFedRight job s None = Unit {0}
IsFedRight job s (Some o) = Fed job s (Some o)

-- the path for the next segment is there as soon as there are steps
abbrev pub IsNamed : List ℕ → List Event → Option (List ℕ) → Type 0
IsNamed p es None = es ≡ []
IsNamed p es (Some q) = q ≡ p

-- the task stands for the state that the job determines for its thread after as many steps as it has made, the last of them the pending
-- ones
pub record OfJob (job : Job) (t : TaskFields) : Type 0 where
  pub state : State
  pub from : ℕ
  pub stands : Stands job t.local t.over state
  pub trace : Trace job t.local.path from t.pending state
  pub counted : from + length t.pending ≡ t.local.steps
  pub only_last : OnlyLast t.pending
  pub awaits : awaits state ≡ awaits_in t
  pub fed : IsFedRight job state t.fed
  pub named : IsNamed t.local.path t.pending t.name
  pub rest : t.over ≡ true → t.pending ≡ []

-- a task of the job whose thread has not started
pub record IsStart (job : Job) (t : TaskFields) : Type 0 where
  pub task : OfJob job t
  pub steps : t.local.steps ≡ 0
  pub pending : t.pending ≡ []
  pub fed : t.fed ≡ None
  pub live : has_ended t ≡ false

-- some job has the task
abbrev pub IsTask : TaskFields → Type 0
IsTask t = (job : Job) × OfJob job t
