-- The clauses of the calls.
use Rattle.std.specs.Prelude.{◌≡◌, ◌≢◌, ℕ, ◌+◌, ◌<◌, ◌≤◌, ◌⊎◌, List, [], ◌∷◌, ◌++◌, length, Bool}
use mathlib.Core.Option.{some}
use lib.ListN.{get_elem?}
use Rattle.priml_syntax.specs.Events.{AllJoins}
use Rattle.trace_book.specs.Segments.{SegmentFields, read_segment}
use Rattle.task_state.specs.Segments.{IsSegmentOf}
use Rattle.task_state.specs.Tasks.{most_steps}
use Rattle.task_state.specs.declared.task.Task.{Task}
use Rattle.join_board.specs.Entries.{Entry}
use Rattle.join_board.specs.Jobs.{the_job}
use Rattle.join_board.specs.Threads.{ended}
use Rattle.join_board.specs.Logs.{CanWait, Each, Missing, keys, handed_out, shard_of}
use Rattle.join_board.specs.Views.{HasSeenEnd}
use Rattle.join_board.specs.declared.view.Sight.{Sight}
use Rattle.join_board.specs.declared.view.View.{View}
use Rattle.join_board.specs.declared.commit.Commit.{Commit}
use Rattle.join_board.specs.declared.commit.Commit.TheVariants.{Done, Full, Busy, Stale, OutOfMemory}

-- in each call: the seat is about the same, stands for as many seats, and has seen no less
abbrev pub SameSeat : View → View → Type 0
SameSeat v w = (w.about ≡ v.about) × (w.seats ≡ v.seats) × ((more : List Sight) × (w.seen ≡ v.seen ++ more))

-- no step, no key, no load and no stop
abbrev pub NoWork : View → View → Type 0
NoWork v w = (w.own ≡ v.own) × (w.uncounted ≡ v.uncounted) × (w.keys ≡ v.keys)

abbrev pub WasBusy : View → List ℕ → View → Type 0
WasBusy v p w = (w.hand.missed ≡ v.hand.missed + 1) × (w.hand.last_missed ≡ shard_of p) × (w.hand.taken ≡ v.hand.taken)

abbrev pub HasTaken : View → List ℕ → View → Type 0
HasTaken v p w = (w.hand.taken ≡ v.hand.taken + 1) × (w.hand.last ≡ shard_of p)

-- the entry of the thread in the shard that was in hand, or 0 where there was none
abbrev pub LengthIn : List Entry → List ℕ → ℕ → Type 0
LengthIn x p n = ((e : Entry) × (i : ℕ) × (get_elem? x i ≡ some e) × (e.log.path ≡ p) × (n ≡ length e.log.events)) ⊎ (Missing x p × (n ≡ 0))

-- the shard that was in hand has no entry of the thread, which is no root, and the seat has seen no log of it
abbrev pub NotListed : View → List ℕ → List Entry → Type 0
NotListed v p x =
    Missing x p
    × ((k : ℕ) → k < length (the_job v.about).program.mains → p ≢ k ∷ [])
    × ((i : ℕ) (t : Sight) → get_elem? v.seen i ≡ some t → t.path ≢ p)

abbrev pub HasSeen : View → List ℕ → ℕ → Bool → Type 0
HasSeen v p n b = (i : ℕ) × (t : Sight) × (get_elem? v.seen i ≡ some t) × (t.path ≡ p) × (t.length ≡ n) × (t.ended ≡ b)

abbrev pub CanCommit : View → SegmentFields → Type 0
CanCommit v s = IsSegmentOf (the_job v.about) s × (length s.events ≤ v.about.quantum) × (s.worker < v.about.opened) × AllJoins (HasSeenEnd v) s.events

-- the tasks are those that waited at the thread in this shard, where the segment ended it
abbrev pub HaveWaited : List Entry → SegmentFields → List Task → Type 0
HaveWaited x s ts = (e : Entry) × (i : ℕ) × (get_elem? x i ≡ some e) × (e.log.path ≡ s.path) × (ts ≡ handed_out s.outcome e.waiting)

-- the tasks have waited in the shard that was in hand; each is one of the job, awaits the thread, and has no pending step
abbrev pub HandsOut : View → SegmentFields → List Task → View → Type 0
HandsOut v s ts w =
    Each (CanWait (the_job v.about) s.path) ts
    × HaveWaited w.hand.copy s ts
    × (w.keys.handed ≡ v.keys.handed ++ keys ts)
    × (w.keys.parked ≡ v.keys.parked)

abbrev pub IsFull : Commit → Type 0
IsFull (Full t) = Unit {0}
IsFull _ = ⊥

abbrev pub Committed : View → SegmentFields → Commit → View → Type 0
Committed v s (Done ts) w =
    HasTaken v s.path w
    × (w.own ≡ v.own + length s.events)
    × (w.uncounted ≡ v.uncounted + length s.events)
    × HandsOut v s ts.items w
    × HasSeen w s.path (s.from + length s.events) (ended s.events)
Committed v s (Full t) w = (read_segment t ≡ s) × (w ≡ v) × (most_steps < v.own + length s.events)
Committed v s (Busy t) w = (read_segment t ≡ s) × WasBusy v s.path w × NoWork v w
Committed v s (Stale t n) w =
    (read_segment t ≡ s)
    × HasTaken v s.path w
    × NoWork v w
    × LengthIn w.hand.copy s.path n
    × (n ≢ s.from ⊎ NotListed v s.path w.hand.copy)
Committed v s (OutOfMemory t) w = (read_segment t ≡ s) × NoWork v w
