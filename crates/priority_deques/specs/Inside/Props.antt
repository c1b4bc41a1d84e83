-- Facts with at most one proof, which a struct can keep.
use Rattle.std.specs.Coded.{Coded-set, coded_ℕ, le_prop, ×_prop, Π_prop}
use Rattle.std.specs.Prelude.{ℕ, List}
use Rattle.std.specs.List.{AllByRecursion-prop}
use Rattle.type_rules.specs.Jobs.{WithInputs}
use Rattle.priority_deques.specs.Books.{DequeBook}
use Rattle.priority_deques.specs.Codes.{job_code}
use Rattle.priority_deques.specs.Ends.{AreOfLane, IsEndOf}

pub lane_prop : (job : WithInputs) (k : ℕ) (ds : List DequeBook) → IsProp (AreOfLane job k ds)
lane_prop job k ds = AllByRecursion-prop _ (λ d. ×_prop (Coded-set job_code _ _) (Coded-set coded_ℕ _ _)) ds

pub end_prop : (job : WithInputs) (books : List (List DequeBook)) → IsProp (IsEndOf job books)
end_prop job books = ×_prop (×_prop (Coded-set coded_ℕ _ _) le_prop) (Π_prop (λ k. Π_prop (λ ds. Π_prop (λ _. lane_prop job k ds))))
