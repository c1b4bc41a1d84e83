-- The sections of an input: the program, and after it the texts of the sections that have a line of their own.
use Rattle.std.specs.Prelude.{◌≡◌, ◌≢◌, ℕ, ◌+◌, ◌⊎◌, List, [], ◌∷◌, ◌++◌, length, take, All, codes, None, Some, unwrap_or}
use Rattle.std.specs.declared.option.Option.{Option}
use Rattle.std.specs.Borrow.{Bor}
use Rattle.priml_io.specs.Lines.{AreBlank, lines}
use Rattle.priml_io.specs.declared.sections.SectionFault.{SectionFault}
use Rattle.priml_io.specs.declared.sections.SectionFault.TheVariants as fault

-- a line that begins a section, and a text whose first line does: the first three bytes are `===`
abbrev pub IsMarked : List ℕ → Type 0
IsMarked text = take 3 text ≡ codes "==="

-- a text and then blanks
abbrev pub IsPadded : List ℕ → List ℕ → Type 0
IsPadded text line = (blanks : List ℕ) × (line ≡ text ++ blanks) × AreBlank blanks

-- the line that begins the section of this name: the mark, the name, and blanks
abbrev pub IsHeading : List ℕ → List ℕ → Type 0
IsHeading name line = IsPadded (codes "===" ++ name) line

-- no line is the heading of this name, and some line is
abbrev pub IsAbsent : List ℕ → List (List ℕ) → Type 0
IsAbsent name ls = All (λ line. ¬ IsHeading name line) ls

abbrev pub Stands : List ℕ → List (List ℕ) → Type 0
Stands name ls = (before : List (List ℕ)) × (line : List ℕ) × (after : List (List ℕ)) × (ls ≡ before ++ line ∷ after) × IsHeading name line

-- after a line that is the heading of this name no other is
abbrev pub StandsOnce : List ℕ → List (List ℕ) → Type 0
StandsOnce name [] = Unit {0}
StandsOnce name (line ∷ ls) = (IsHeading name line → IsAbsent name ls) × StandsOnce name ls

-- each line that begins a section begins `inputs` or `schedule`, and no section begins twice
pub record AreSections (ls : List (List ℕ)) : Type 0 where
  pub known : All (λ line. IsMarked line → IsHeading (codes "inputs") line ⊎ IsHeading (codes "schedule") line) ls
  pub inputs : StandsOnce (codes "inputs") ls
  pub schedule : StandsOnce (codes "schedule") ls

-- the bytes of one line, with its line feed, which a line may lack where nothing follows
pub record IsRow (bytes line after : List ℕ) : Type 0 where
  pub plain : All (λ b. b ≢ 10) line
  pub ended : (bytes ≡ line ++ 10 ∷ []) ⊎ ((bytes ≡ line) × (after ≡ []))

-- a text of whole lines: it is empty or ends in a line feed
abbrev pub IsWhole : List ℕ → Type 0
IsWhole text = (text ≡ []) ⊎ ((prefix : List ℕ) × (text ≡ prefix ++ 10 ∷ []))

-- the program, or the text of a section: no line of it is marked, and it ends where the input ends or where a marked
-- line begins
pub record IsPart (part after : List ℕ) : Type 0 where
  pub plain : All (λ line. ¬ IsMarked line) (lines part)
  pub ended : (after ≡ []) ⊎ (IsWhole part × IsMarked after)

-- the input begins with this program
abbrev pub IsProgram : List ℕ → List ℕ → Type 0
IsProgram input program = (after : List ℕ) × (input ≡ program ++ after) × IsPart program after

-- some line of the input is the heading of this name, and this text is behind it
pub record IsBehind (input name body : List ℕ) : Type 0 where
  pub prefix : List ℕ
  pub bytes : List ℕ
  pub line : List ℕ
  pub after : List ℕ
  pub is : input ≡ prefix ++ (bytes ++ (body ++ after))
  pub whole : IsWhole prefix
  pub row : IsRow bytes line (body ++ after)
  pub heading : IsHeading name line
  pub part : IsPart body after

-- the text of the section of this name, where the input has one
abbrev pub IsSection : List ℕ → List ℕ → Option (List ℕ) → Type 0
IsSection input name None = IsAbsent name (lines input)
IsSection input name (Some body) = IsBehind input name body

-- the texts of an input; that of an absent section is empty
pub record Sections : Type 0 where
  pub program : List ℕ
  pub inputs : List ℕ
  pub schedule : List ℕ

abbrev pub texts : List ℕ → Option (List ℕ) → Option (List ℕ) → Sections
texts program inputs schedule = record { program = program; inputs = unwrap_or inputs []; schedule = unwrap_or schedule [] }

-- the bytes of a slice, where there is one
abbrev pub bytes_of : Option (Bor (List ℕ)) → Option (List ℕ)
bytes_of None = None
bytes_of (Some slice) = Some slice.now

-- The input is cut into a program and these sections, all that there are.
pub record Cuts (input program : List ℕ) (inputs schedule : Option (List ℕ)) : Type 0 where
  pub right : AreSections (lines input)
  pub program_is : IsProgram input program
  pub inputs_is : IsSection input (codes "inputs") inputs
  pub schedule_is : IsSection input (codes "schedule") schedule

-- the input is cut into these texts
abbrev pub IsCut : List ℕ → Sections → Type 0
IsCut input s = (inputs schedule : Option (List ℕ)) × Cuts input s.program inputs schedule × (s ≡ texts s.program inputs schedule)

-- a line that begins a section, where the lines before it are right; its number is counted from 1
pub record Comes (input : List ℕ) (n : ℕ) (before : List (List ℕ)) (line : List ℕ) : Type 0 where
  pub after : List (List ℕ)
  pub is : lines input ≡ before ++ line ∷ after
  pub number : n ≡ length before + 1
  pub right : AreSections before
  pub marked : IsMarked line

-- the heading of this name comes again
abbrev pub ComesAgain : List ℕ → List (List ℕ) → List ℕ → Type 0
ComesAgain name before line = IsHeading name line × Stands name before

-- the first line that begins no new section of a known name, and what is wrong with it
abbrev pub HasSectionFault : List ℕ → SectionFault → Type 0
HasSectionFault input (fault.UnknownSection n) =
    (before : List (List ℕ)) × (line : List ℕ) × Comes input n before line
    × (¬ IsHeading (codes "inputs") line) × (¬ IsHeading (codes "schedule") line)
HasSectionFault input (fault.TwiceSection n) =
    (before : List (List ℕ)) × (line : List ℕ) × Comes input n before line
    × (ComesAgain (codes "inputs") before line ⊎ ComesAgain (codes "schedule") before line)

-- an input is cut in one way, or it has one fault, and not both
pub record CutsOneWay (input : List ℕ) : Type 0 where
  pub one : (s t : Sections) → IsCut input s → IsCut input t → s ≡ t
  pub first : (f g : SectionFault) → HasSectionFault input f → HasSectionFault input g → f ≡ g
  pub apart : (s : Sections) (f : SectionFault) → IsCut input s → HasSectionFault input f → ⊥
