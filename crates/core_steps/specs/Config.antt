-- Configurations, choices of threads, and interleavings.
use Rattle.std.specs.Prelude.{◌≡◌, ℕ, ◌+◌, if◌then◌else◌, List, [], ◌∷◌, ◌++◌, Option, Some, None, length}
use Rattle.std.specs.Option.{option_and_then}
use Rattle.priml_syntax.specs.Tree.{Routine}
use Rattle.priml_syntax.specs.Values.{Outcome', Entry}
use Rattle.priml_syntax.specs.declared.event.Event.{Event}
use Rattle.priml_syntax.specs.Paths.{same_path, path_lt}
use Rattle.core_steps.specs.Steps.{Job, State, Moved, step, awaits, outcome_in, root_state}

pub record Thread : Type 0 where
  pub state : State
  pub events : List Event

-- the thread of a path
abbrev pub thread_by_path : List Thread → List ℕ → Option Thread
thread_by_path [] p = None
thread_by_path (t ∷ ts) p = if same_path t.state.path p then Some t else thread_by_path ts p

-- with this thread in place of that of its path
abbrev pub put : Thread → List Thread → List Thread
put t [] = []
put t (x ∷ xs) = if same_path x.state.path t.state.path then t ∷ xs else x ∷ put t xs

-- with one thread more, at its place in the order of paths
abbrev pub added : Thread → List Thread → List Thread
added t [] = t ∷ []
added t (x ∷ xs) = if path_lt t.state.path x.state.path then t ∷ x ∷ xs else x ∷ added t xs

abbrev pub with_child : Option State → List Thread → List Thread
with_child None ts = ts
with_child (Some c) ts = added (record { state = c; events = [] }) ts

-- the awaited outcome, where none is awaited or the awaited thread has ended
abbrev pub ended_of : Option Thread → Option (Option Outcome')
ended_of None = None
ended_of (Some t) = option_and_then (λ o. Some (Some o)) (outcome_in t.state.phase)

abbrev pub handed : List Thread → Option (List ℕ) → Option (Option Outcome')
handed ts None = Some None
handed ts (Some b) = ended_of (thread_by_path ts b)

abbrev pub after : List Thread → Thread → Moved → List Thread
after ts t m = with_child m.child (put (record { state = m.next; events = t.events ++ m.event ∷ [] }) ts)

abbrev pub moved : Job → List Thread → Thread → Option Moved
moved job ts t = option_and_then (λ w. step job t.state w) (handed ts (awaits t.state))

-- one choice: the thread of that path makes its next step
abbrev pub chosen : Job → List Thread → List ℕ → Option (List Thread)
chosen job ts p = option_and_then (λ t. option_and_then (λ m. Some (after ts t m)) (moved job ts t)) (thread_by_path ts p)

abbrev pub followed : Job → List Thread → List (List ℕ) → Option (List Thread)
followed job ts [] = Some ts
followed job ts (p ∷ ps) = option_and_then (λ us. followed job us ps) (chosen job ts p)

abbrev pub roots_from : List Routine → ℕ → List Thread
roots_from [] k = []
roots_from (m ∷ ms) k = record { state = root_state m k; events = [] } ∷ roots_from ms (k + 1)

-- the roots alone
abbrev pub begin : Job → List Thread
begin job = roots_from job.program.mains 0

-- some interleaving of n choices leads to the configuration
abbrev pub ReachedIn : Job → ℕ → List Thread → Type 0
ReachedIn job n ts = (ps : List (List ℕ)) × (length ps ≡ n) × (followed job (begin job) ps ≡ Some ts)

abbrev pub Reached : Job → List Thread → Type 0
Reached job ts = (n : ℕ) × ReachedIn job n ts

abbrev pub IsFinished : List Thread → Type 0
IsFinished [] = Unit {0}
IsFinished (t ∷ ts) = ((o : Outcome') × (outcome_in t.state.phase ≡ Some o)) × IsFinished ts

-- thread a waits on thread b
abbrev pub WaitsOn : List Thread → List ℕ → List ℕ → Type 0
WaitsOn ts a b = (t : Thread) × (thread_by_path ts a ≡ Some t) × (awaits t.state ≡ Some b) × (handed ts (Some b) ≡ None)

abbrev pub entry_of : Thread → Outcome' → Entry
entry_of t o = record { path = t.state.path; prio = t.state.prio; events = t.events; outcome = o }

abbrev pub entry_then : Option Outcome' → Thread → Option (List Entry) → Option (List Entry)
entry_then None t es = None
entry_then (Some o) t None = None
entry_then (Some o) t (Some es) = Some (entry_of t o ∷ es)

-- the records, where every thread has ended
abbrev pub records_of : List Thread → Option (List Entry)
records_of [] = Some []
records_of (t ∷ ts) = entry_then (outcome_in t.state.phase) t (records_of ts)
