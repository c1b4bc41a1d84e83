-- The lines of the inputs: the lists that they give, and the first line at fault.
use Rattle.std.specs.Prelude.{◌≡◌, ◌⊎◌, ℕ, ℤ, ◌+◌, List, [], ◌∷◌, ◌++◌, length, Option, None, Some}
use Rattle.priml_syntax.specs.Inputs.{inputs_of, NoPathTwice}
use Rattle.inputs_text.specs.declared.inputs.InputFault.{InputFault}
use Rattle.inputs_text.specs.declared.inputs.InputFault.TheVariants as fault
use Rattle.inputs_text.specs.PathText.{Pairwise}
use Rattle.inputs_text.specs.InputLines.{IsInputLine, IsBadLine}

-- the items that are there, in order
abbrev pub present : {A : Type 0} → List (Option A) → List A
present [] = []
present (None ∷ forms) = present forms
present (Some x ∷ forms) = x ∷ present forms

-- the path is one of those that have a list
abbrev pub HasPath : List ℕ → List (List ℕ × List ℤ) → Type 0
HasPath p [] = ⊥
HasPath p (x ∷ xs) = (x.0 ≡ p) ⊎ HasPath p xs

-- each line has a form, no path stands twice, and these are the lists in the order of their lines
pub record IsInputs (ls : List (List ℕ)) (lists : List (List ℕ × List ℤ)) : Type 0 where
  pub forms : List (Option (List ℕ × List ℤ))
  pub each : Pairwise IsInputLine ls forms
  pub gives : lists ≡ present forms
  pub once : NoPathTwice lists

-- what is wrong with line k after lines that gave these lists: it has no form, or its path has a list
abbrev pub IsFaultAt : ℕ → List ℕ → List (List ℕ × List ℤ) → InputFault → Type 0
IsFaultAt k line lists (fault.BadLine n) = (n ≡ k) × IsBadLine line
IsFaultAt k line lists (fault.TwicePath n) = (n ≡ k) × ((given : List ℕ × List ℤ) × IsInputLine line (Some given) × HasPath given.0 lists)
IsFaultAt k line lists fault.OutOfMemory = ⊥

-- the first line at fault, counted from 1, and what is wrong with it
pub record IsFirstFault (ls : List (List ℕ)) (f : InputFault) : Type 0 where
  pub before : List (List ℕ)
  pub line : List ℕ
  pub after : List (List ℕ)
  pub lists : List (List ℕ × List ℤ)
  pub is : ls ≡ before ++ line ∷ after
  pub right : IsInputs before lists
  pub wrong : IsFaultAt (length before + 1) line lists f

-- why lines are no inputs; want of memory needs no cause
abbrev pub HasInputFault : List (List ℕ) → InputFault → Type 0
HasInputFault ls fault.OutOfMemory = Unit {0}
HasInputFault ls (fault.BadLine n) = IsFirstFault ls (fault.BadLine n)
HasInputFault ls (fault.TwicePath n) = IsFirstFault ls (fault.TwicePath n)

-- for each path the numbers that the lines give it, and none where they give it none
abbrev pub AreInputs : List (List ℕ) → List (List ℕ × List ℤ) → Type 0
AreInputs ls inputs = (lists : List (List ℕ × List ℤ)) × IsInputs ls lists × ((p : List ℕ) → inputs_of inputs p ≡ inputs_of lists p)

-- lines give one list of lists, or they have one fault, and not both
pub record ReadsOneWay (ls : List (List ℕ)) : Type 0 where
  pub one : (a b : List (List ℕ × List ℤ)) → IsInputs ls a → IsInputs ls b → a ≡ b
  pub first : (f g : InputFault) → IsFirstFault ls f → IsFirstFault ls g → f ≡ g
  pub apart : (a : List (List ℕ × List ℤ)) (f : InputFault) → IsInputs ls a → IsFirstFault ls f → ⊥

-- all lines are inputs or have a first fault
abbrev pub LinesAreRead : Type 0
LinesAreRead = (ls : List (List ℕ)) → ((lists : List (List ℕ × List ℤ)) × IsInputs ls lists) ⊎ ((f : InputFault) × IsFirstFault ls f)
