-- What holds of all words, and of every input.
use Rattle.std.specs.Prelude.{◌⊎◌, ℕ, List, Result}
use Rattle.priml_io.specs.declared.words.Command.{Command}
use Rattle.priml_io.specs.declared.words.WordsFault.{WordsFault}
use Rattle.priml_io.specs.declared.sections.SectionFault.{SectionFault}
use Rattle.priml_io.specs.Words.{ReadsWords}
use Rattle.priml_io.specs.Sections.{Sections, IsCut, HasSectionFault}

-- all words are a command or have a fault
abbrev pub WordsAreRead : Type 0
WordsAreRead = (words : List (List ℕ)) → (r : Result Command WordsFault) × ReadsWords words r

-- every input is cut into sections or has a section fault
abbrev pub InputsAreCut : Type 0
InputsAreCut = (input : List ℕ) → ((s : Sections) × IsCut input s) ⊎ ((f : SectionFault) × HasSectionFault input f)
