-- The order of faults: the earlier place first, and at one place the smaller number of the kind.
use Rattle.std.specs.Prelude.{◌≡◌, ℕ, ◌<◌, ◌≤◌, List, [], ◌∷◌}
use Rattle.std.proofs.Common.{◌⊎◌}
use Rattle.source_reader.specs.declared.faults.Fault.{Fault}
use Rattle.source_reader.specs.declared.faults.Fault.TheVariants.{UnknownName, TwiceNamed, TooMany}

-- where a fault stands
abbrev pub place : Fault → ℕ
place (UnknownName at) = at
place (TwiceNamed at) = at
place (TooMany at what) = at

-- the number of its kind
abbrev pub kind : Fault → ℕ
kind (UnknownName at) = 4
kind (TwiceNamed at) = 5
kind (TooMany at what) = 7

-- at an earlier place, or at its place with a smaller number
abbrev pub Before : Fault → Fault → Type 0
Before f g = (place f < place g) ⊎ ((place f ≡ place g) × (kind f < kind g))

-- the fault is before each of these
abbrev pub IsBeforeAll : Fault → List Fault → Type 0
IsBeforeAll f [] = Unit {0}
IsBeforeAll f (g ∷ gs) = Before f g × IsBeforeAll f gs

-- each fault is before those behind it
abbrev pub Ascends : List Fault → Type 0
Ascends [] = Unit {0}
Ascends (f ∷ fs) = IsBeforeAll f fs × Ascends fs

-- each fault stands at this place or behind it, and before that one
abbrev pub Between : ℕ → ℕ → List Fault → Type 0
Between low high [] = Unit {0}
Between low high (f ∷ fs) = (low ≤ place f) × (place f < high) × Between low high fs

-- both
pub record Within (low high : ℕ) (fs : List Fault) : Type 0 where
  pub between : Between low high fs
  pub ascends : Ascends fs
