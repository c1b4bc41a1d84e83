-- The text of a path.
use Rattle.std.specs.Prelude.{ℕ, List, [], ◌∷◌, ◌++◌, codes}
use Rattle.std.specs.List.{flat_map}
use Rattle.std.specs.Fmt.{decimal}

-- a number with a dot before it
abbrev pub dotted : ℕ → List ℕ
dotted n = codes "." ++ decimal n

-- the numbers of a path with a dot between
abbrev pub path_text : List ℕ → List ℕ
path_text [] = []
path_text (x ∷ xs) = decimal x ++ flat_map dotted xs
