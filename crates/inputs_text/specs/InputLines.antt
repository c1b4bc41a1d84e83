-- The form of one line of the inputs: a path, a colon, and numbers.
use Rattle.std.specs.Prelude.{◌≡◌, ◌≢◌, ◌⊎◌, ℕ, ℤ, pos, neg_ℤ, FitsSigned, Bool, ◌==◌, not, List, ◌∷◌, ◌++◌, length, filter, All, slice_get, Option, None, Some}
use Rattle.std.specs.List.{slice_split}
use Rattle.std.specs.Int.{w64}
use Rattle.priml_io.specs.Lines.{is_blank, AreBlank}
use Rattle.priml_io.specs.Words.{IsDigits, value_of}
use Rattle.inputs_text.specs.PathText.{Pairwise, IsPathText}

-- digits, of this number
abbrev pub IsValue : List ℕ → ℤ → Type 0
IsValue digits n = IsDigits digits × (n ≡ pos (value_of digits)) × FitsSigned w64 n

-- digits, of the number that this one negates
abbrev pub IsNegated : List ℕ → ℤ → Type 0
IsNegated digits n = IsDigits digits × (n ≡ neg_ℤ (pos (value_of digits))) × FitsSigned w64 n

-- a number in the range of i64: digits, or a minus and digits
abbrev pub IsNumberText : List ℕ → ℤ → Type 0
IsNumberText text n = IsValue text n ⊎ ((digits : List ℕ) × (text ≡ 45 ∷ digits) × IsNegated digits n)

-- some byte
abbrev pub is_some_text : List ℕ → Bool
is_some_text text = not (length text == 0)

-- the words of a text: its longest runs without blanks
abbrev pub words_of : List ℕ → List (List ℕ)
words_of text = filter is_some_text (slice_split is_blank text)

-- numbers, with at least one blank between
abbrev pub AreNumbers : List ℕ → List ℤ → Type 0
AreNumbers text numbers = Pairwise IsNumberText (words_of text) numbers

-- the first byte is `#`
abbrev pub IsComment : List ℕ → Type 0
IsComment line = slice_get line 0 ≡ Some 35

-- what stands before the first colon of a line, and what after it
pub record IsCutAtColon (line path numbers : List ℕ) : Type 0 where
  pub is : line ≡ path ++ 58 ∷ numbers
  pub first : All (λ b. b ≢ 58) path

-- a line that gives these numbers to this path, whose root is 0
pub record Gives (line path : List ℕ) (numbers : List ℤ) : Type 0 where
  pub before : List ℕ
  pub after : List ℕ
  pub cut : IsCutAtColon line before after
  pub path_text : IsPathText 0 before path
  pub numbers_text : AreNumbers after numbers

-- a line of the inputs: it is blank or a comment and gives nothing, or it gives numbers to a path
abbrev pub IsInputLine : List ℕ → Option (List ℕ × List ℤ) → Type 0
IsInputLine line None = AreBlank line ⊎ IsComment line
IsInputLine line (Some given) = Gives line given.0 given.1

-- the line is none of the inputs
abbrev pub IsBadLine : List ℕ → Type 0
IsBadLine line = (form : Option (List ℕ × List ℤ)) → ¬ IsInputLine line form
