-- What reading a line tells, and what it adds to the lists and paths of the earlier lines.
use Rattle.std.specs.Prelude.{◌≡◌, ◌≢◌, ◌⊎◌, ℕ, ℤ, Bool, true, false, List, [], ◌∷◌, ◌++◌, map, slice_get, None, Some}
use Rattle.std.specs.HashSet.{HashSet}
use Rattle.std.specs.declared.vec.Vec.{Vec}
use Rattle.priml_syntax.specs.Inputs.{IsNoneOf}
use Rattle.inputs_text.specs.declared.line.Line.{Line}
use Rattle.inputs_text.specs.declared.line.Line.TheVariants as said
use Rattle.inputs_text.specs.declared.inputs.InputFault.{InputFault}
use Rattle.inputs_text.specs.declared.inputs.InputFault.TheVariants as fault
use Rattle.inputs_text.specs.InputLines.{IsInputLine, IsBadLine}
use Rattle.inputs_text.specs.Inputs.{IsFaultAt}

-- a line says this
abbrev pub HasForm : List ℕ → Line → Type 0
HasForm line said.Nothing = IsInputLine line None
HasForm line (said.Numbers path numbers) = IsInputLine line (Some (path, numbers.items))
HasForm line said.Bad = IsBadLine line

-- the paths of a set, in its order
abbrev pub paths_in : {Z S : Type 0} → HashSet (Vec ℕ Z) S → List (List ℕ)
paths_in paths = map (λ v. v.items) paths.keys

-- the paths of the lists
abbrev pub paths_of : List (List ℕ × List ℤ) → List (List ℕ)
paths_of lists = map (λ x. x.0) lists

-- a path is new among the known ones and becomes the last, or it is known
abbrev pub AddsPath : List (List ℕ) → List ℕ → Bool → List (List ℕ) → Type 0
AddsPath known path true later = ((k : ℕ) → slice_get known k ≢ Some path) × (later ≡ known ++ path ∷ [])
AddsPath known path false later = (k : ℕ) × (slice_get known k ≡ Some path)

-- a line gives nothing, or it gives numbers to a path that no earlier line has
abbrev pub AddsLine : List ℕ → List (List ℕ × List ℤ) → List (List ℕ × List ℤ) → Type 0
AddsLine line lists later =
    (IsInputLine line None × (later ≡ lists))
    ⊎ ((given : List ℕ × List ℤ) × IsInputLine line (Some given) × IsNoneOf given.0 lists × (later ≡ lists ++ given ∷ []))

-- why line k stops the reading
abbrev pub StopsAt : ℕ → List ℕ → List (List ℕ × List ℤ) → InputFault → Type 0
StopsAt k line lists fault.OutOfMemory = Unit {0}
StopsAt k line lists (fault.BadLine n) = IsFaultAt k line lists (fault.BadLine n)
StopsAt k line lists (fault.TwicePath n) = IsFaultAt k line lists (fault.TwicePath n)
