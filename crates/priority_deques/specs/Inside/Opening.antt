-- Ends with stealing deques as they are opened.
use Rattle.std.specs.Prelude.{◌≡◌, ℕ, ◌<◌, ◌⊎◌, List, length, slice_get, Some}
use Rattle.std.specs.List.{AllByRecursion}
use Rattle.type_rules.specs.Jobs.{WithInputs}
use Rattle.priority_deques.specs.declared.ends.StealEnd.{StealEnd}
use Rattle.priority_deques.specs.Books.{DequeBook}
use Rattle.priority_deques.specs.EndBooks.{steal_books, steal_job}
use Rattle.priority_deques.specs.Ends.{fresh_book, lane_count}

-- none of the deques of the lane was used
abbrev pub AreFresh : WithInputs → ℕ → List DequeBook → Type 0
AreFresh job k = AllByRecursion (λ d. d ≡ fresh_book job k)

-- the deques of lane k, as end e has them: they are all there at the ends before i, and at end i in the lanes before j
pub record Joined (job : WithInputs) (all i j e k : ℕ) (ds : List DequeBook) : Type 0 where
  pub fresh : AreFresh job k ds
  pub full : (e < i) ⊎ ((e ≡ i) × (k < j)) → length ds ≡ all

pub record EndJoined (job : WithInputs) (all i j e : ℕ) (end : StealEnd) : Type 0 where
  pub same : steal_job end ≡ job
  pub long : length (steal_books end) ≡ lane_count job
  pub each : (k : ℕ) (ds : List DequeBook) → slice_get (steal_books end) k ≡ Some ds → Joined job all i j e k ds

abbrev pub Ready : WithInputs → ℕ → ℕ → ℕ → List StealEnd → Type 0
Ready job all i j ends = (e : ℕ) (end : StealEnd) → slice_get ends e ≡ Some end → EndJoined job all i j e end
