-- What an end knows of its deques, and what a call changes of that.
use Rattle.std.specs.Prelude.{◌≡◌, ℕ, zero, suc, ◌<◌, ◌⊎◌, List, [], ◌∷◌, ◌++◌}
use Rattle.std.specs.List.{AllZip}
use Rattle.type_rules.specs.Jobs.{WithInputs}
use Rattle.core_steps.specs.Moves.{read_job}
use Rattle.task_state.specs.Tasks.{TaskFields, TaskKey, key_of}
use Rattle.priority_deques.specs.declared.view.LaneView.{LaneView}
use Rattle.priority_deques.specs.Tasks.{Fits, IsLaneOf}

-- what an end knows of one of its deques: the job and the lane of the deque, the keys of the tasks that the end put on it and of those that it
-- took from it, how many steps on it gave no task, and how many of its pushes were refused
pub record DequeBook : Type 0 where
  pub job : WithInputs
  pub lane : ℕ
  pub put : List TaskKey
  pub taken : List TaskKey
  pub misses : ℕ
  pub refusals : ℕ

-- by what a pass of a deque of the job knows, and the counts that its end keeps
abbrev pub book_of : WithInputs → LaneView → ℕ → ℕ → DequeBook
book_of job v misses refusals = record { job = job; lane = v.lane; put = v.put; taken = v.taken; misses = misses; refusals = refusals }

abbrev pub last_count : ℕ
last_count = 18446744073709551615

-- a count rose, or stands at its last value
abbrev pub Rose : ℕ → ℕ → Type 0
Rose a b = (a < b) ⊎ ((a ≡ last_count) × (b ≡ last_count))

-- a step on the deque gave no task
abbrev pub Missed : DequeBook → DequeBook → Type 0
Missed a b = (b ≡ record a { misses = b.misses }) × Rose a.misses b.misses

-- the deque gave the task
abbrev pub Gave : TaskFields → DequeBook → DequeBook → Type 0
Gave t a b = (b ≡ record a { taken = a.taken ++ key_of t ∷ [] }) × Fits (read_job a.job) a.lane t

-- the task was put on the deque
abbrev pub Got : TaskFields → DequeBook → DequeBook → Type 0
Got t a b = b ≡ record a { put = a.put ++ key_of t ∷ [] }

-- a push on the deque was refused
abbrev pub Refused : DequeBook → DequeBook → Type 0
Refused a b = (b ≡ record a { refusals = b.refusals }) × Rose a.refusals b.refusals

module _ {A : Type 0} where
  abbrev pub AsBefore : A → A → Type 0
  AsBefore x y = y ≡ x

  -- the items before place n have changed by R, that at n by S, and those behind it are as before
  abbrev pub ChangedAt : (A → A → Type 0) → (A → A → Type 0) → ℕ → List A → List A → Type 0
  ChangedAt R S n [] ys = ⊥
  ChangedAt R S n (x ∷ xs) [] = ⊥
  ChangedAt R S zero (x ∷ xs) (y ∷ ys) = S x y × (ys ≡ xs)
  ChangedAt R S (suc n) (x ∷ xs) (y ∷ ys) = R x y × ChangedAt R S n xs ys

-- of the deques of one lane one gave the task; those before it were tried, and gave none
abbrev pub TookOne : TaskFields → List DequeBook → List DequeBook → Type 0
TookOne t old new = (n : ℕ) × ChangedAt Missed (Gave t) n old new

-- every deque of every lane was tried, and gave no task
abbrev pub NoneTaken : List (List DequeBook) → List (List DequeBook) → Type 0
NoneTaken = AllZip (AllZip Missed)

-- a deque of lane k gave the task, which fits that lane; every deque of each lane before it was tried, and gave none
pub record Picked (job : WithInputs) (k : ℕ) (t : TaskFields) (old new : List (List DequeBook)) : Type 0 where
  pub fits : Fits (read_job job) k t
  pub taken : ChangedAt (AllZip Missed) (TookOne t) k old new

-- the first deque of the lane of this priority, which is the end's own, has changed so, and no other has
abbrev pub OwnChanged : (DequeBook → DequeBook → Type 0) → WithInputs → ℕ → List (List DequeBook) → List (List DequeBook) → Type 0
OwnChanged S job prio old new = (k : ℕ) × IsLaneOf (read_job job) prio k × ChangedAt AsBefore (ChangedAt AsBefore S 0) k old new

-- the task was put on a deque of the lane of its priority
abbrev pub WasPut : WithInputs → TaskFields → List (List DequeBook) → List (List DequeBook) → Type 0
WasPut job t = OwnChanged (Got t) job t.local.prio

-- the end's own deque of the lane of the task's priority refused a push
abbrev pub WasRefused : WithInputs → TaskFields → List (List DequeBook) → List (List DequeBook) → Type 0
WasRefused job t = OwnChanged Refused job t.local.prio
