-- What a job determines of a thread, with the events in sight: the steps of a task and of the board.
use Rattle.std.specs.Prelude.{◌≡◌, ℕ, ◌+◌, List, [], ◌∷◌, ◌++◌, Option, Some, None, length}
use Rattle.priml_syntax.specs.declared.event.Event.{Event}
use Rattle.priml_syntax.specs.Values.{Outcome'}
use Rattle.core_steps.specs.Steps.{Job, State, Moved, step, awaits, Ended, Ran, outcome_in}
use Rattle.core_steps.specs.Config.{Thread, thread_by_path}

-- the state of a thread after n steps
abbrev pub Determined : Job → List ℕ → ℕ → State → Type 0
Determined job p n s = (es : List Event) × (length es ≡ n) × Ran job p es s

-- the thread ends with this outcome
abbrev pub EndsWith : Job → List ℕ → Outcome' → Type 0
EndsWith job b o = (es : List Event) × (u : State) × Ran job b es u × (u.phase ≡ Ended o)

-- the outcome is that of the thread that the next step needs, and there is none where it needs none
abbrev pub Fed : Job → State → Option Outcome' → Type 0
Fed job s None = awaits s ≡ None
Fed job s (Some o) = (b : List ℕ) × (awaits s ≡ Some b) × EndsWith job b o

-- from the state after n steps the thread made these steps, and is in this state
pub data Trace (job : Job) (p : List ℕ) (n : ℕ) : List Event → State → Type 0 where
  here : {es : List Event} {s : State} → es ≡ [] → Determined job p n s → Trace job p n es s
  next : {es fs : List Event} {s t : State} (o : Option Outcome') (m : Moved) →
      Trace job p n fs s → Fed job s o → step job s o ≡ Some m → es ≡ fs ++ m.event ∷ [] → t ≡ m.next → Trace job p n es t

abbrev pub events_in : Option Thread → List Event
events_in None = []
events_in (Some t) = t.events

-- the events so far of a thread, none where there is no such thread
abbrev pub events_of : List Thread → List ℕ → List Event
events_of ts p = events_in (thread_by_path ts p)

abbrev pub IsIn : List Thread → List ℕ → Type 0
IsIn ts p = (t : Thread) × (thread_by_path ts p ≡ Some t)

abbrev pub HasEnded : List Thread → List ℕ → Type 0
HasEnded ts p = (t : Thread) × (o : Outcome') × (thread_by_path ts p ≡ Some t) × (outcome_in t.state.phase ≡ Some o)

-- the number of all events
abbrev pub steps_of : List Thread → ℕ
steps_of [] = 0
steps_of (t ∷ ts) = length t.events + steps_of ts

abbrev pub one_live : Option Outcome' → ℕ
one_live None = 1
one_live (Some o) = 0

-- the number of threads that have not ended
abbrev pub unended : List Thread → ℕ
unended [] = 0
unended (t ∷ ts) = one_live (outcome_in t.state.phase) + unended ts
