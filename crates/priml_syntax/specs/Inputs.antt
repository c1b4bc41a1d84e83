-- The lists of numbers that threads read.
use Rattle.std.specs.Prelude.{◌≢◌, ℕ, ℤ, List, [], ◌∷◌, map, if◌then◌else◌}
use Rattle.std.specs.declared.vec.Vec.{Vec}
use Rattle.std.specs.declared.alloc.Global.{Global}
use Rattle.priml_syntax.specs.Paths.{same_path, Precedes}

-- the pairs of a path and its list, without the room of the lists
abbrev pub read_lists : List (List ℕ × Vec ℤ Global) → List (List ℕ × List ℤ)
read_lists = map (λ (e : List ℕ × Vec ℤ Global). (e.0, e.1.items))

-- the numbers that the thread of this path reads: its list, and none where there is no list for it
abbrev pub inputs_of : List (List ℕ × List ℤ) → List ℕ → List ℤ
inputs_of [] p = []
inputs_of (x ∷ xs) p = if same_path x.0 p then x.1 else inputs_of xs p

-- the path is none of those that have a list
abbrev pub IsNoneOf : List ℕ → List (List ℕ × List ℤ) → Type 0
IsNoneOf p [] = Unit {0}
IsNoneOf p (x ∷ xs) = (x.0 ≢ p) × IsNoneOf p xs

-- no path has two lists
abbrev pub NoPathTwice : List (List ℕ × List ℤ) → Type 0
NoPathTwice [] = Unit {0}
NoPathTwice (x ∷ xs) = IsNoneOf x.0 xs × NoPathTwice xs

-- the path stands before each of those that have a list
abbrev pub IsBeforeEach : List ℕ → List (List ℕ × List ℤ) → Type 0
IsBeforeEach p [] = Unit {0}
IsBeforeEach p (x ∷ xs) = Precedes p x.0 × IsBeforeEach p xs

-- the lists stand in the order of their paths, and no path has two
abbrev pub RiseByPath : List (List ℕ × List ℤ) → Type 0
RiseByPath [] = Unit {0}
RiseByPath (x ∷ xs) = IsBeforeEach x.0 xs × RiseByPath xs
