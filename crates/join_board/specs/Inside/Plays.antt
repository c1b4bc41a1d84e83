-- What each kind of step tells its caller.
use Rattle.std.specs.Prelude.{◌≡◌, ◌≢◌, ℕ, ◌+◌, ◌-◌, ◌^◌, ◌<◌, ◌≤◌, ◌⊎◌, List, [], ◌∷◌, ◌++◌, length, true, false, Option, Some, None}
use mathlib.Core.Option.{some}
use lib.ListN.{get_elem?}
use Rattle.atomic_table.specs.Table.{Me, Step, rest}
use Rattle.priml_syntax.specs.declared.event.Event.{Event}
use Rattle.priml_syntax.specs.declared.value.Outcome.{Outcome}
use Rattle.priml_syntax.specs.Events.{AllJoins, spawns, ends}
use Rattle.priml_syntax.specs.Read.{read_outcome}
use Rattle.core_steps.specs.Determined.{EndsWith, Trace}
use Rattle.core_steps.specs.Steps.{Job, State}
use Rattle.trace_book.specs.Segments.{SegmentFields}
use Rattle.task_state.specs.Segments.{IsSegmentOf}
use Rattle.task_state.specs.Tasks.{most_steps}
use Rattle.task_state.specs.declared.task.Task.{Task}
use Rattle.join_board.specs.Entries.{Entry}
use Rattle.join_board.specs.Jobs.{the_job}
use Rattle.join_board.specs.Rule.{word_of}
use Rattle.join_board.specs.Threads.{PrioOf, ended}
use Rattle.join_board.specs.Logs.{Each, log_in, shard_of, appended, fresh, parked_on, IsListed, Missing, CanWait}
use Rattle.join_board.specs.Views.{HasSeenEnd, HasSeenSpawn}
use Rattle.join_board.specs.Inside.Views.{took_view, missed_view, gave_view, added_view, subtracted_view, alive_view, over_view, counted_view, asked_limit_view, asked_memory_view, unset_view, found_limit_view, found_memory_view}
use Rattle.join_board.specs.declared.view.Sight.{Sight}
use Rattle.join_board.specs.declared.view.View.{View}

abbrev Sat : Type 0
Sat = Me (Option (List Entry)) View

-- an entry has an outcome exactly where its log ends in End, and then its thread's; that makes no step more
abbrev pub Told : Job → Entry → Type 0
Told job e =
    (e.log.outcome ≡ None → ended e.log.events ≡ false)
    × ((o : Outcome) → e.log.outcome ≡ Some o → (ended e.log.events ≡ true) × EndsWith job e.log.path (read_outcome o))
    × (ended e.log.events ≡ true → (es : List Event) (s : State) → Trace job e.log.path (length e.log.events) es s → es ≡ [])

-- what a take tells of the shard
pub record Taken (v : View) (k : ℕ) (x : List Entry) : Type 0 where
  pub told : Each (Told (the_job v.about)) x
  pub apart : (i j : ℕ) (e f : Entry) → get_elem? x i ≡ some e → get_elem? x j ≡ some f → f.log.path ≡ e.log.path → j ≡ i
  -- each task that waits in it can
  pub waits : Each (λ (e : Entry). Each (CanWait (the_job v.about) e.log.path) e.waiting) x
  -- each log of the shard is at least as the seat had seen it, and has an entry
  pub met : (i : ℕ) (t : Sight) → get_elem? v.seen i ≡ some t → shard_of t.path ≡ k →
      (t.length ≤ length (log_in x t.path)) × (t.ended ≡ true → ended (log_in x t.path) ≡ true) × IsListed x t.path
  -- each root of the shard has an entry
  pub rooted : (j : ℕ) → j < length (the_job v.about).program.mains → shard_of (j ∷ []) ≡ k → IsListed x (j ∷ [])

abbrev pub took : Step (Option (List Entry)) → Sat → ℕ → Sat → Type 0
took st m n m' = (k : ℕ) → st.word ≡ word_of k →
    (n ≡ 0 → (x : List Entry) × (m' ≡ (took_view m.0 k x, (k, Some x) ∷ m.1)) × Taken m.0 k x)
    × (n ≢ 0 → m' ≡ (missed_view m.0 k, m.1))

-- the value in the slot that the seat took last
abbrev pub in_slot : Option (List Entry) → List Entry
in_slot None = []
in_slot (Some x) = x

abbrev pub content : List (ℕ × Option (List Entry)) → List Entry
content [] = []
content (c ∷ cs) = in_slot c.1

abbrev pub gave : Step (Option (List Entry)) → Sat → ℕ → Sat → Type 0
gave st m n m' = m' ≡ (gave_view m.0 (content m.1), rest m.1)

-- a segment was appended
pub record Grew_by (v : View) (k : ℕ) (x : List Entry) : Type 0 where
  pub at : ℕ
  pub entry : Entry
  pub segment : SegmentFields
  pub there : get_elem? v.hand.copy at ≡ some entry
  pub is : x ≡ Rattle.std.specs.Prelude.slice_set v.hand.copy at (appended entry segment)
  pub path : segment.path ≡ entry.log.path
  pub from : segment.from ≡ length entry.log.events
  pub steps : IsSegmentOf (the_job v.about) segment
  pub joins : AllJoins (HasSeenEnd v) segment.events
  pub quantum : length segment.events ≤ v.about.quantum
  pub worker : segment.worker < v.about.opened
  pub room : v.own + length segment.events ≤ most_steps
  pub ahead : spawns segment.events ≤ v.live.ahead
  pub behind : v.live.behind + ends segment.events + (v.live.ahead - spawns segment.events) ≤ 1

-- a thread was enrolled
pub record Enrolled_by (v : View) (k : ℕ) (x : List Entry) : Type 0 where
  pub path : List ℕ
  pub prio : ℕ
  pub is : x ≡ v.hand.copy ++ fresh path prio ∷ []
  pub here : shard_of path ≡ k
  pub missing : Missing v.hand.copy path
  pub spawned : HasSeenSpawn v path
  pub priority : PrioOf (the_job v.about) path prio

-- a task was parked
pub record Parked_by (v : View) (k : ℕ) (x : List Entry) : Type 0 where
  pub at : ℕ
  pub entry : Entry
  pub task : Task
  pub there : get_elem? v.hand.copy at ≡ some entry
  pub goes_on : entry.log.outcome ≡ None
  pub waits : CanWait (the_job v.about) entry.log.path task
  pub is : x ≡ Rattle.std.specs.Prelude.slice_set v.hand.copy at (parked_on entry task)

-- what may be given back
abbrev pub Grew : View → ℕ → List Entry → Type 0
Grew v k x = (x ≡ v.hand.copy) ⊎ (Grew_by v k x ⊎ (Enrolled_by v k x ⊎ Parked_by v k x))

abbrev pub added : Step (Option (List Entry)) → Sat → ℕ → Sat → Type 0
added st m n m' = m' ≡ (added_view m.0, m.1)

abbrev pub subtracted : Step (Option (List Entry)) → Sat → ℕ → Sat → Type 0
subtracted st m n m' = m' ≡ (subtracted_view m.0, m.1)

abbrev pub looked : Step (Option (List Entry)) → Sat → ℕ → Sat → Type 0
looked st m n m' = (n ≡ 0 → m' ≡ (over_view m.0, m.1)) × (n ≢ 0 → m' ≡ (alive_view m.0, m.1))

abbrev pub counted : Step (Option (List Entry)) → Sat → ℕ → Sat → Type 0
counted st m n m' = (m' ≡ (counted_view m.0 n, m.1)) × (m.0.stop.most ≤ n) × (n + m.0.uncounted < 2 ^ 64)

abbrev pub asked_limit : Step (Option (List Entry)) → Sat → ℕ → Sat → Type 0
asked_limit st m n m' = m' ≡ (asked_limit_view m.0, m.1)

abbrev pub asked_memory : Step (Option (List Entry)) → Sat → ℕ → Sat → Type 0
asked_memory st m n m' = m' ≡ (asked_memory_view m.0, m.1)

abbrev pub found_stop : Step (Option (List Entry)) → Sat → ℕ → Sat → Type 0
found_stop st m n m' =
    (n < 3)
    × (n ≡ 0 → m' ≡ (unset_view m.0, m.1))
    × (n ≡ 1 → m' ≡ (found_limit_view m.0, m.1))
    × (n ≡ 2 → m' ≡ (found_memory_view m.0, m.1))
