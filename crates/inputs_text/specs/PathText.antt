-- The text of a path: its numbers with dots between.
use Rattle.std.specs.Prelude.{◌≡◌, ℕ, ◌^◌, ◌<◌, ◌≤◌, ◌==◌, List, [], ◌∷◌, length, slice_index}
use Rattle.std.specs.List.{slice_split}
use Rattle.priml_syntax.specs.Limits.{most_parts}
use Rattle.priml_io.specs.Words.{IsDigits, value_of}

-- two lists of one length, and R holds of the items at each place
abbrev pub Pairwise : {A B : Type 0} → (A → B → Type 0) → List A → List B → Type 0
Pairwise R [] [] = Unit {0}
Pairwise R [] (y ∷ ys) = ⊥
Pairwise R (x ∷ xs) [] = ⊥
Pairwise R (x ∷ xs) (y ∷ ys) = R x y × Pairwise R xs ys

-- a part of a path: digits with no leading zero, of a number below 2 to the 32
pub record IsPartText (text : List ℕ) (n : ℕ) : Type 0 where
  pub digits : IsDigits text
  pub plain : slice_index text 0 ≡ 48 → length text ≡ 1
  pub value : n ≡ value_of text
  pub small : n < 2 ^ 32

-- the texts between the dots of a text
abbrev pub between_dots : List ℕ → List (List ℕ)
between_dots text = slice_split (λ b. b == 46) text

-- a path: its parts with a dot between, and the first, the number of its root, is at most `last`
pub record IsPathText (last : ℕ) (text path : List ℕ) : Type 0 where
  pub parts : Pairwise IsPartText (between_dots text) path
  pub root : slice_index path 0 ≤ last
  pub few : length path ≤ most_parts
