-- Logs, shards and what they add up to.
use Rattle.std.specs.Prelude.{◌≡◌, ◌≢◌, ℕ, ◌+◌, ◌%◌, ◌<◌, ◌≤◌, List, [], ◌∷◌, ◌++◌, length, map, drop, slice_index_or, true, cond, Option, Some, None}
use mathlib.Core.Option.{some}
use lib.ListN.{get_elem?}
use Rattle.priml_syntax.specs.declared.event.Event.{Event}
use Rattle.priml_syntax.specs.declared.value.Outcome.{Outcome}
use Rattle.priml_syntax.specs.Events.{spawns, ends}
use Rattle.priml_syntax.specs.Paths.{same_path}
use Rattle.core_steps.specs.Steps.{Job}
use Rattle.trace_book.specs.declared.segment.Cut.{Cut}
use Rattle.trace_book.specs.Segments.{SegmentFields}
use Rattle.trace_book.specs.Logs.{appended as log_appended}
use Rattle.task_state.specs.declared.task.Task.{Task}
use Rattle.task_state.specs.Sums.{total}
use Rattle.task_state.specs.Tasks.{TaskKey, OfJob, awaited_of, key_of, read_task}
use Rattle.join_board.specs.Entries.{Entry}
use Rattle.join_board.specs.Threads.{ended}
use Rattle.join_board.specs.declared.view.Sight.{Sight}
use Rattle.join_board.specs.declared.view.About.{About}

abbrev pub Each : {A : Type 0} → (A → Type 0) → List A → Type 0
Each F xs = (i : ℕ) (x : _) → get_elem? xs i ≡ some x → F x

-- the sum of the numbers of a path
abbrev pub sum_of : List ℕ → ℕ
sum_of = total (λ (n : ℕ). n)

-- the shard of a thread
abbrev pub shard_of : List ℕ → ℕ
shard_of p = sum_of p % 64

abbrev pub log_in : List Entry → List ℕ → List Event
log_in [] p = []
log_in (e ∷ es) p = cond (same_path e.log.path p) e.log.events (log_in es p)

abbrev pub shard_at : List (List Entry) → ℕ → List Entry
shard_at shards k = slice_index_or shards k []

-- a thread's log, and no event where it has no entry
abbrev pub log_of : List (List Entry) → List ℕ → List Event
log_of shards p = log_in (shard_at shards (shard_of p)) p

abbrev pub size : List Entry → ℕ
size = total (λ e. length e.log.events)

abbrev pub spawned : List Entry → ℕ
spawned = total (λ e. spawns e.log.events)

abbrev pub finished : List Entry → ℕ
finished = total (λ e. ends e.log.events)

abbrev pub sight : Entry → Sight
sight e = record { path = e.log.path; length = length e.log.events; ended = ended e.log.events }

abbrev pub sights : List Entry → List Sight
sights x = map sight x

abbrev pub IsAt : List Entry → List ℕ → ℕ → Type 0
IsAt x p i = (e : Entry) × (get_elem? x i ≡ some e) × (e.log.path ≡ p)

abbrev pub IsListed : List Entry → List ℕ → Type 0
IsListed x p = (i : ℕ) × IsAt x p i

abbrev pub HasEntry : List (List Entry) → List ℕ → Type 0
HasEntry shards p = IsListed (shard_at shards (shard_of p)) p

-- each root of the job has an entry
abbrev pub HasRoots : Job → List (List Entry) → Type 0
HasRoots job shards = (k : ℕ) → k < length job.program.mains → HasEntry shards (k ∷ [])

-- what was seen of a log: it has an entry, and is as long, and has ended where it had
abbrev pub Shows : List (List Entry) → Sight → Type 0
Shows shards t = (t.length ≤ length (log_of shards t.path)) × (t.ended ≡ true → ended (log_of shards t.path) ≡ true) × HasEntry shards t.path

-- the cuts lead from n to m, each of 1 to quantum steps and with a worker below the seats opened
abbrev pub Covers : About → ℕ → List Cut → ℕ → Type 0
Covers key n [] m = n ≡ m
Covers key n (c ∷ cs) m = (c.from ≡ n) × (0 < c.steps) × (c.steps ≤ key.quantum) × (c.worker < key.opened) × Covers key (n + c.steps) cs m

abbrev pub keys : List Task → List TaskKey
keys ts = map (λ (t : Task). key_of (read_task t)) ts

abbrev pub weigh : (TaskKey → ℕ) → List Entry → ℕ
weigh h = total (λ (e : Entry). total h (keys e.waiting))

-- the keys that wait in the second shard and not in the first, where one has the other's tasks and more
abbrev pub new_keys : List Entry → List Entry → List TaskKey
new_keys [] ys = []
new_keys (x ∷ xs) [] = []
new_keys (x ∷ xs) (y ∷ ys) = keys (drop (length x.waiting) y.waiting) ++ new_keys xs ys

-- the task is one of the job, awaits the thread, and has no pending step
abbrev pub CanWait : Job → List ℕ → Task → Type 0
CanWait job p t = OfJob job (read_task t) × (awaited_of (read_task t) ≡ Some p) × ((read_task t).pending ≡ [])

abbrev pub kept : Option Outcome → List Task → List Task
kept None ts = ts
kept (Some o) ts = []

abbrev pub handed_out : Option Outcome → List Task → List Task
handed_out None ts = []
handed_out (Some o) ts = ts

abbrev pub appended : Entry → SegmentFields → Entry
appended e s = record { log = log_appended e.log s; waiting = kept s.outcome e.waiting }

abbrev pub fresh : List ℕ → ℕ → Entry
fresh p a = record { log = record { path = p; prio = a; events = []; outcome = None; cuts = [] }; waiting = [] }

abbrev pub parked_on : Entry → Task → Entry
parked_on e t = record e { waiting = e.waiting ++ t ∷ [] }

abbrev pub Missing : List Entry → List ℕ → Type 0
Missing x p = (i : ℕ) (e : Entry) → get_elem? x i ≡ some e → e.log.path ≢ p
