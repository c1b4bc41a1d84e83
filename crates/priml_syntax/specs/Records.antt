-- Lists of the records of threads that have ended.
use Rattle.std.specs.Prelude.{◌≡◌, ◌⊎◌, ℕ, ◌+◌, List, [], ◌∷◌, length}
use Rattle.priml_syntax.specs.Paths.{Precedes}
use Rattle.priml_syntax.specs.Values.{Entry}

-- P holds of each record
abbrev pub Each : (Entry → Type 0) → List Entry → Type 0
Each P [] = Unit {0}
Each P (r ∷ rs) = P r × Each P rs

-- some record has the path
abbrev pub In : List ℕ → List Entry → Type 0
In p [] = ⊥
In p (r ∷ rs) = (r.path ≡ p) ⊎ In p rs

-- in the order of paths, no path twice
abbrev pub InPathOrder : List Entry → Type 0
InPathOrder [] = Unit {0}
InPathOrder (r ∷ rs) = Each (λ x. Precedes r.path x.path) rs × InPathOrder rs

-- the number of all their events
abbrev pub work : List Entry → ℕ
work [] = 0
work (r ∷ rs) = length r.events + work rs
