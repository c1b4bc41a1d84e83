-- Which deques an end has.
use Rattle.std.specs.Prelude.{◌≡◌, ℕ, ◌≤◌, List, [], length, slice_get, replicate, Some}
use Rattle.std.specs.List.{AllByRecursion}
use Rattle.type_rules.specs.Jobs.{WithInputs}
use Rattle.priority_order.specs.Order.{most_names}
use Rattle.core_steps.specs.Moves.{read_job}
use Rattle.priority_deques.specs.Books.{DequeBook}

-- how many priorities the program of the job has, and so how many lanes
abbrev pub lane_count : WithInputs → ℕ
lane_count job = length (read_job job).program.names

-- the deques are those of this lane of the job
abbrev pub AreOfLane : WithInputs → ℕ → List DequeBook → Type 0
AreOfLane job k = AllByRecursion (λ (d : DequeBook). (d.job ≡ job) × (d.lane ≡ k))

-- an end of the job: it has deques of each lane, lane by lane, and there are at most 16 lanes
abbrev pub IsEndOf : WithInputs → List (List DequeBook) → Type 0
IsEndOf job books =
    ((length books ≡ lane_count job) × (lane_count job ≤ most_names))
    × ((k : ℕ) (ds : List DequeBook) → slice_get books k ≡ Some ds → AreOfLane job k ds)

abbrev pub fresh_book : WithInputs → ℕ → DequeBook
fresh_book job lane = record { job = job; lane = lane; put = []; taken = []; misses = 0; refusals = 0 }

-- an end of the job that has so many deques of each lane, of which it has used none
pub record IsOpened (job : WithInputs) (deques : ℕ) (books : List (List DequeBook)) : Type 0 where
  pub long : length books ≡ lane_count job
  pub each : (k : ℕ) (ds : List DequeBook) → slice_get books k ≡ Some ds → ds ≡ replicate deques (fresh_book job k)
