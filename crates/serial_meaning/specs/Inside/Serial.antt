-- The serial run of a job: the threads that have not ended, that which goes on first the last.
use Rattle.std.specs.Prelude.{◌≡◌, ◌⊎◌, ℕ, zero, suc, ◌+◌, ◌<◌, List, [], ◌∷◌, Some, None, length}
use Rattle.std.specs.List.{AllByRecursion}
use Rattle.priml_syntax.specs.declared.event.Event.{Event}
use Rattle.priml_syntax.specs.declared.event.Event.TheVariants.{Spawn, End}
use Rattle.priml_syntax.specs.Events.{spawns}
use Rattle.priml_syntax.specs.Limits.{most_parts, most_children}
use Rattle.priml_syntax.specs.Paths.{Before, child_path}
use Rattle.core_steps.specs.Steps.{Job}
use Rattle.core_steps.specs.Config.{Thread, thread_by_path, ReachedIn, WaitsOn}
use Rattle.core_steps.specs.Configs.{SlotFields, threads_from}
use Rattle.core_steps.specs.Determined.{events_of, IsIn, HasEnded}
use Rattle.serial_meaning.specs.declared.serial.Active.{Active}

-- each comes before those that stand before it in the list
abbrev pub Falls : List Active → Type 0
Falls [] = Unit {0}
Falls (x ∷ xs) = AllByRecursion (λ y. Before y.path x.path) xs × Falls xs

-- one has the path
abbrev pub Has : List Active → List ℕ → Type 0
Has [] p = ⊥
Has (x ∷ xs) p = (x.path ≡ p) ⊎ Has xs p

-- the thread is there and has not ended, and this many children were spawned
pub record IsActive (ts : List Thread) (x : Active) : Type 0 where
  pub there : IsIn ts x.path
  pub live : HasEnded ts x.path → ⊥
  pub counted : spawns (events_of ts x.path) ≡ x.children

-- the threads that have not ended are exactly those of the list
pub record IsStack (ts : List Thread) (xs : List Active) : Type 0 where
  pub each : AllByRecursion (IsActive ts) xs
  pub all : (p : List ℕ) → IsIn ts p → (HasEnded ts p → ⊥) → Has xs p
  pub falls : Falls xs

-- the slots stand for a configuration that n steps lead to, in which these threads have not ended
pub record Serial (job : Job) (n : ℕ) (ss : List SlotFields) (xs : List Active) : Type 0 where
  pub threads : List Thread
  pub reads : threads_from job.program ss ≡ Some threads
  pub reached : ReachedIn job n threads
  pub stack : IsStack threads xs

-- the thread of the path is there, has not ended, and waits on none
pub record MayGo (ts : List Thread) (p : List ℕ) : Type 0 where
  pub there : thread_by_path ts p ≡ None → ⊥
  pub live : HasEnded ts p → ⊥
  pub free : (b : List ℕ) → WaitsOn ts p b → ⊥

abbrev pub GoesOnAt : Job → List SlotFields → List ℕ → Type 0
GoesOnAt job ss p = (ts : List Thread) → threads_from job.program ss ≡ Some ts → MayGo ts p

-- where the event is a Spawn, the thread has room for the child
abbrev pub MaySpawn : Active → Event → Type 0
MaySpawn x e = e ≡ Spawn → (length x.path < most_parts) × (x.children < most_children)

-- what is left to be run behind such a step of the thread
abbrev pub left_of : Active → Event → List Active
left_of x End = []
left_of x Spawn = record { path = x.path; children = x.children + 1 } ∷ record { path = child_path x.path x.children; children = 0 } ∷ []
left_of x e = x ∷ []

-- the first n roots, the last of them first
abbrev pub roots_below : ℕ → List Active
roots_below zero = []
roots_below (suc n) = record { path = n ∷ []; children = 0 } ∷ roots_below n
