-- Paths of threads, as lists of numbers, and their two orders.
use Rattle.std.specs.Prelude.{◌≡◌, ◌⊎◌, ℕ, ◌<◌, ◌≤◌, List, [], ◌∷◌, ◌++◌, length, Bool, true, false, ◌&&◌, nat_lt, eqb, if◌then◌else◌}
use Rattle.priml_syntax.specs.Limits.{most_parts}

-- a path has 1 to 32 parts
pub record IsPath (p : List ℕ) : Type 0 where
  pub some : 0 < length p
  pub few : length p ≤ most_parts

-- the k-th thread that p spawns
abbrev pub child_path : List ℕ → ℕ → List ℕ
child_path p k = p ++ k ∷ []

-- whether two paths are equal
abbrev pub same_path : List ℕ → List ℕ → Bool
same_path [] [] = true
same_path [] (y ∷ ys) = false
same_path (x ∷ xs) [] = false
same_path (x ∷ xs) (y ∷ ys) = eqb x y && same_path xs ys

-- the order of records: a prefix first, then by the first number that differs
abbrev pub path_lt : List ℕ → List ℕ → Bool
path_lt [] [] = false
path_lt [] (y ∷ ys) = true
path_lt (x ∷ xs) [] = false
path_lt (x ∷ xs) (y ∷ ys) = if nat_lt x y then true else (if nat_lt y x then false else path_lt xs ys)

-- p stands before q in the order of records
abbrev pub Precedes : List ℕ → List ℕ → Type 0
Precedes [] [] = ⊥
Precedes [] (y ∷ ys) = Unit {0}
Precedes (x ∷ xs) [] = ⊥
Precedes (x ∷ xs) (y ∷ ys) = (x < y) ⊎ ((x ≡ y) × Precedes xs ys)

-- both have a number at the first place where they differ, and b's is the smaller
abbrev pub Left : List ℕ → List ℕ → Type 0
Left [] q = ⊥
Left (x ∷ b) [] = ⊥
Left (x ∷ b) (y ∷ q) = (x < y) ⊎ ((x ≡ y) × Left b q)

-- b is a descendant of p
abbrev pub Below : List ℕ → List ℕ → Type 0
Below b p = (k : ℕ) × (ext : List ℕ) × (b ≡ p ++ k ∷ ext)

-- the order of waiting: a thread's own descendants, and threads with a smaller number at the first difference, come before it
abbrev pub Before : List ℕ → List ℕ → Type 0
Before b p = Left b p ⊎ Below b p
