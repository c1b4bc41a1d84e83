-- The answers of enroll, look, park and the stop.
use Rattle.std.specs.Prelude.{◌≡◌, ℕ, ◌+◌, ◌<◌, ◌≤◌, ◌⊎◌, List, [], ◌∷◌, ◌++◌, Bool, true, false, Option, Some, None}
use mathlib.Core.Option.{some}
use lib.ListN.{get_elem?}
use Rattle.priml_syntax.specs.Read.{read_outcome}
use Rattle.core_steps.specs.Determined.{EndsWith}
use Rattle.task_state.specs.declared.task.Task.{Task}
use Rattle.task_state.specs.Tasks.{key_of, read_task}
use Rattle.join_board.specs.Entries.{Entry}
use Rattle.join_board.specs.Jobs.{the_job}
use Rattle.join_board.specs.Threads.{PrioOf, ended}
use Rattle.join_board.specs.Views.{HasSeenEnd, HasSeenSpawn}
use Rattle.join_board.specs.Calls.{NoWork, WasBusy, HasTaken, LengthIn, NotListed, HasSeen}
use Rattle.join_board.specs.declared.view.Sight.{Sight}
use Rattle.join_board.specs.declared.view.View.{View}
use Rattle.join_board.specs.declared.enroll.Enroll as enroll
use Rattle.join_board.specs.declared.enroll.Enroll.TheVariants as enrolled
use Rattle.join_board.specs.declared.look.Look as look
use Rattle.join_board.specs.declared.look.Look.TheVariants as looked
use Rattle.join_board.specs.declared.park.Park as park
use Rattle.join_board.specs.declared.park.Park.TheVariants as parked
use Rattle.join_board.specs.declared.stop.StopCause.{StopCause}
use Rattle.join_board.specs.declared.stop.StopCause.TheVariants.{Limit, Memory}

-- the seat has seen the Spawn of the thread, which has this priority
abbrev pub CanEnroll : View → List ℕ → ℕ → Type 0
CanEnroll v p a = HasSeenSpawn v p × PrioOf (the_job v.about) p a

abbrev pub Enrolled : View → List ℕ → enroll.Enroll → View → Type 0
Enrolled v p enrolled.Done w = HasTaken v p w × NoWork v w × ((n : ℕ) × (b : Bool) × HasSeen w p n b)
Enrolled v p enrolled.Busy w = WasBusy v p w × NoWork v w
Enrolled v p enrolled.OutOfMemory w = NoWork v w

-- an entry of the thread, in the shard that was in hand, has ended
abbrev pub EndedIn : List Entry → List ℕ → Type 0
EndedIn x p = (e : Entry) × (i : ℕ) × (get_elem? x i ≡ some e) × (e.log.path ≡ p) × (ended e.log.events ≡ true)

abbrev pub NotEndedIn : List Entry → List ℕ → Type 0
NotEndedIn x p = (i : ℕ) (e : Entry) → get_elem? x i ≡ some e → e.log.path ≡ p → ended e.log.events ≡ false

-- no log of the thread that the seat has seen is longer
abbrev pub NoneLonger : View → List ℕ → ℕ → Type 0
NoneLonger v p n = (i : ℕ) (t : Sight) → get_elem? v.seen i ≡ some t → t.path ≡ p → t.length ≤ n

abbrev pub Looked : View → List ℕ → look.Look → View → Type 0
Looked v p (looked.Ended o) w =
    HasTaken v p w
    × NoWork v w
    × EndsWith (the_job v.about) p (read_outcome o)
    × EndedIn w.hand.copy p
    × HasSeenEnd w p
Looked v p (looked.NotYet n) w =
    HasTaken v p w
    × NoWork v w
    × LengthIn w.hand.copy p n
    × NotEndedIn w.hand.copy p
    × NoneLonger v p n
    × (NotListed v p w.hand.copy ⊎ HasSeen w p n false)
Looked v p looked.Busy w = WasBusy v p w × NoWork v w
Looked v p looked.OutOfMemory w = NoWork v w

abbrev pub Parks : View → List ℕ → Task → park.Park → View → Type 0
Parks v p t parked.Parked w =
    HasTaken v p w
    × (w.own ≡ v.own)
    × (w.uncounted ≡ v.uncounted)
    × (w.keys.parked ≡ v.keys.parked ++ key_of (read_task t) ∷ [])
    × (w.keys.handed ≡ v.keys.handed)
Parks v p t (parked.Ended u) w = (u ≡ t) × HasTaken v p w × NoWork v w × EndedIn w.hand.copy p
Parks v p t (parked.Busy u) w = (u ≡ t) × WasBusy v p w × NoWork v w
Parks v p t (parked.NoEntry u) w = (u ≡ t) × HasTaken v p w × NoWork v w × NotListed v p w.hand.copy
Parks v p t (parked.OutOfMemory u) w = (u ≡ t) × NoWork v w

-- Limit only after a count above the limit
abbrev pub MayAsk : View → StopCause → Type 0
MayAsk v Limit = v.about.limit < v.stop.most
MayAsk v Memory = Unit {0}

abbrev pub Asked : StopCause → View → Type 0
Asked Limit w = 0 < w.stop.asked_limit
Asked Memory w = 0 < w.stop.asked_memory

abbrev pub Stopped : View → Option StopCause → View → Type 0
Stopped v None w = w.stop.unset ≡ v.stop.unset + 1
Stopped v (Some Limit) w = 0 < w.stop.found_limit
Stopped v (Some Memory) w = 0 < w.stop.found_memory
