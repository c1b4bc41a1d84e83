-- The rule, in groups. A group reads only what it speaks of: some words, some fields of the views, and the numbers of the reading.
use Rattle.std.specs.Prelude.{◌≡◌, ◌≢◌, ℕ, ◌+◌, ◌*◌, ◌^◌, ◌<◌, ◌≤◌, ◌==◌, ◌⊎◌, List, length, slice_index, cond, Option, Some, None}
use mathlib.Core.Option.{Option as Maybe, some}
use lib.ListN.{get_elem?}
use Rattle.atomic_table.specs.Table.{State}
use Rattle.std.specs.Option.{option_map}
use Rattle.priml_syntax.specs.Read.{read_outcome}
use Rattle.core_steps.specs.Config.{Thread, Reached}
use Rattle.core_steps.specs.Determined.{IsIn, events_of, steps_of, unended}
use Rattle.task_state.specs.declared.task.Task.{Task}
use Rattle.task_state.specs.Tasks.{TaskKey, most_steps}
use Rattle.join_board.specs.Entries.{Entry}
use Rattle.join_board.specs.Jobs.{the_job}
use Rattle.join_board.specs.Threads.{PrioOf, outcome_at}
use Rattle.task_state.specs.Sums.{total}
use Rattle.join_board.specs.Logs.{Each, log_of, shard_at, shard_of, size, HasRoots, Shows, Covers, weigh, CanWait}
use Rattle.join_board.specs.declared.view.About.{About}
use Rattle.join_board.specs.declared.view.View.{View}
use Rattle.join_board.specs.declared.view.Stop.{Stop}

-- The words. Each stands 16 behind the one before, so that no two share a line of a cache.
abbrev pub live_word : ℕ
live_word = 0

abbrev pub word_of : ℕ → ℕ
word_of k = 16 * k + 16

abbrev pub spent_word : ℕ
spent_word = 1040

abbrev pub stop_word : ℕ
stop_word = 1056

-- each entry stands in the shard of its thread, which is one of the reading, and no thread has two
abbrev pub Placed : List Thread → ℕ → List Entry → Type 0
Placed c k x = (i : ℕ) (e : Entry) → get_elem? x i ≡ some e →
    (shard_of e.log.path ≡ k)
    × IsIn c e.log.path
    × ((j : ℕ) (f : Entry) → get_elem? x j ≡ some f → f.log.path ≡ e.log.path → j ≡ i)

-- the log's priority and outcome are the thread's, and the cuts cover its steps
abbrev pub EntryTrue : About → List Thread → Entry → Type 0
EntryTrue key c e =
    PrioOf (the_job key) e.log.path e.log.prio
    × (option_map read_outcome e.log.outcome ≡ outcome_at c e.log.path)
    × Covers key 0 e.log.cuts (length e.log.events)

-- rule 1: the shards read as a reached configuration
pub record KeepsLogs (key : About) (shards : List (List Entry)) (c : List Thread) : Type 0 where
  pub deep : length shards ≡ 64
  pub reached : Reached (the_job key) c
  pub reads : (p : List ℕ) → events_of c p ≡ log_of shards p
  pub placed : (k : ℕ) → k < 64 → Placed c k (shard_at shards k)
  pub entries : (k : ℕ) → k < 64 → Each (EntryTrue key c) (shard_at shards k)
  pub work : total size shards ≡ steps_of c
  pub few : unended c ≤ length (the_job key).program.mains + steps_of c
  pub roots : length (the_job key).program.mains < 2 ^ 32

-- rule 5; a view that stands for no seat has asked for nothing
abbrev pub SeatTrue : About → View → Type 0
SeatTrue key v = (0 < v.seats → v.about ≡ key) × (v.own ≤ v.seats * most_steps) × (v.seats ≡ 0 → v.stop.asked_memory ≡ 0)

pub record KeepsSeats (key : About) (work : ℕ) (views : List View) : Type 0 where
  pub each : Each (SeatTrue key) views
  pub own : total (λ v. v.own) views ≡ work
  pub seats : total (λ v. v.seats) views ≡ key.opened
  pub few : key.opened ≤ 16

-- rule 2, and a shard in hand stands as it was taken
abbrev pub has : ℕ → View → ℕ
has k v = cond (v.hand.hand == k + 1) 1 0

abbrev pub HandTrue : List (List Entry) → View → Type 0
HandTrue shards v = (k : ℕ) → v.hand.hand ≡ k + 1 → (k < 64) × (v.hand.copy ≡ shard_at shards k) × (0 < v.seats)

pub record KeepsHands (shards : List (List Entry)) (words : List ℕ) (homes : List (Maybe (Option (List Entry)))) (views : List View) : Type 0 where
  pub wide : length words ≡ 1072
  pub low : (k : ℕ) → k < 64 → slice_index words (word_of k) < 2
  pub hands : (k : ℕ) → k < 64 → total (has k) views ≡ slice_index words (word_of k)
  pub home : (k : ℕ) → k < 64 → slice_index words (word_of k) ≡ 0 → get_elem? homes k ≡ some (some (Some (shard_at shards k)))
  pub each : Each (HandTrue shards) views

-- rule 4, and the roots have entries from the start
abbrev pub SeenTrue : List (List Entry) → View → Type 0
SeenTrue shards v = Each (Shows shards) v.seen

pub record KeepsSeen (key : About) (shards : List (List Entry)) (views : List View) : Type 0 where
  pub each : Each (SeenTrue shards) views
  pub rooted : HasRoots (the_job key) shards

-- rule 3
abbrev pub LiveTrue : ℕ → View → Type 0
LiveTrue alive v = (v.live.ahead + v.live.behind ≤ v.seats) × (0 < v.live.over → alive ≡ 0)

pub record KeepsLive (alive live : ℕ) (views : List View) : Type 0 where
  pub count : live ≡ alive + total (λ v. v.live.ahead) views + total (λ v. v.live.behind) views
  pub each : Each (LiveTrue alive) views

-- rule 6
abbrev pub calls : Stop → ℕ
calls t = t.asked_limit + t.asked_memory + t.found_limit + t.found_memory

abbrev pub asks : View → ℕ
asks v = v.stop.asked_memory

abbrev pub CallsTrue : About → ℕ → ℕ → ℕ → Stop → Type 0
CallsTrue key spent stop asked t =
    (t.most ≤ spent)
    × (0 < calls t → stop ≢ 0)
    × (0 < t.found_limit → key.limit < spent)
    × (0 < t.found_memory → 0 < asked)

abbrev pub StopTrue : About → ℕ → ℕ → ℕ → View → Type 0
StopTrue key spent stop asked v = CallsTrue key spent stop asked v.stop

abbrev pub StopCause : About → ℕ → ℕ → ℕ → Type 0
StopCause key spent stop asked = (stop ≡ 0) ⊎ (((stop ≡ 1) × (key.limit < spent)) ⊎ ((stop ≡ 2) × (0 < asked)))

pub record KeepsSpent (key : About) (work spent stop : ℕ) (views : List View) : Type 0 where
  pub sum : spent + total (λ v. v.uncounted) views ≡ work
  pub cause : StopCause key spent stop (total asks views)
  pub each : Each (StopTrue key spent stop (total asks views)) views

-- rule 7
abbrev pub Waits : About → Entry → Type 0
Waits key e = Each (λ (t : Task). CanWait (the_job key) e.log.path t × (e.log.outcome ≡ None)) e.waiting

pub record KeepsParked (key : About) (shards : List (List Entry)) (views : List View) : Type 0 where
  pub balance : (h : TaskKey → ℕ) → total (λ v. total h v.keys.parked) views ≡ total (λ v. total h v.keys.handed) views + total (weigh h) shards
  pub waits : (k : ℕ) → k < 64 → Each (Waits key) (shard_at shards k)

pub record Keeps (key : About) (s : State (Option (List Entry)) View) : Type 0 where
  pub shards : List (List Entry)
  pub config : List Thread
  pub logs : KeepsLogs key shards config
  pub seats : KeepsSeats key (steps_of config) s.views
  pub hands : KeepsHands shards s.words s.homes s.views
  pub seen : KeepsSeen key shards s.views
  pub live : KeepsLive (unended config) (slice_index s.words live_word) s.views
  pub spent : KeepsSpent key (steps_of config) (slice_index s.words spent_word) (slice_index s.words stop_word) s.views
  pub parked : KeepsParked key shards s.views
