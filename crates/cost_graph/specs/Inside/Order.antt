-- A way that a search has found.
use Rattle.std.specs.Prelude.{◌≡◌, ℕ, List, get_or, Bool, true, false, ◌⊎◌}
use Rattle.std.specs.List.{Contains}

-- one of the numbers is the target, or is marked
abbrev pub HasWay : List Bool → List ℕ → ℕ → Type 0
HasWay marks numbers target = (n : ℕ) × Contains numbers n × ((n ≡ target) ⊎ (get_or marks n false ≡ true))
