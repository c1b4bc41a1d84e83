-- The program that a text stands for, and the fault of a text that stands for none.
use Rattle.std.specs.Prelude.{◌≡◌, ℕ, List, [], ◌∷◌, ◌++◌, length, slice_get, Some}
use Rattle.priml_syntax.specs.Tree.{Tree}
use Rattle.source_tokens.specs.declared.token.Token.{Token}
use Rattle.source_tokens.specs.declared.token.Stop.{Stop}
use Rattle.source_tokens.specs.declared.token.Stop.TheVariants as stop
use Rattle.source_tokens.specs.Lexes.{IsLexed}
use Rattle.source_grammar.specs.RawTree.{RawTree}
use Rattle.source_grammar.specs.Grammar.{IsProgram}
use Rattle.source_grammar.specs.Faults.{kinds, Viable, IsUnexpected}
use Rattle.source_reader.specs.declared.faults.Fault.{Fault}
use Rattle.source_reader.specs.declared.faults.Fault.TheVariants as fault
use Rattle.source_reader.specs.declared.reader.SourceFault.{SourceFault}
use Rattle.source_reader.specs.declared.reader.SourceFault.TheVariants.{BadByte, BadNumber, Unexpected, UnknownName, TwiceNamed, TooDeep, TooMany, OutOfMemory}
use Rattle.source_reader.specs.Faults.{faults}
use Rattle.source_reader.specs.Order.{IsBeforeAll}
use Rattle.source_reader.specs.Resolved.{resolved}

-- the text stands for the program: its tokens are those of a program as it is written, each name resolves, no limit is passed, and the
-- program is what the names mean
pub record Stands (text : List ℕ) (p : Tree) : Type 0 where
  pub tokens : List Token
  pub names : List (List ℕ)
  pub raw : RawTree
  pub lexed : IsLexed text tokens names stop.Done
  pub derived : IsProgram tokens raw
  pub clean : faults raw ≡ []
  pub meant : resolved names raw ≡ p

-- a fault of names and limits, as a fault of the text
abbrev pub as_source : Fault → SourceFault
as_source (fault.UnknownName at) = UnknownName at
as_source (fault.TwiceNamed at) = TwiceNamed at
as_source (fault.TooMany at what) = TooMany at what

-- the fault is one of these, and each other stands behind it: at a later place, or at its place with a greater number
pub record IsFirst (f : Fault) (fs : List Fault) : Type 0 where
  pub before : List Fault
  pub after : List Fault
  pub among : fs ≡ before ++ f ∷ after
  pub leads : IsBeforeAll f (before ++ after)

-- The fault of a text that stands for no program. What its tokens say comes first, and of that the earliest place. Only where the tokens are those of a
-- program, its names and limits are looked at.
pub data IsFaultOf (text : List ℕ) : SourceFault → Type 0 where
  -- all tokens before the byte begin some program
  bad_byte : {tokens : List Token} {names : List (List ℕ)} (at : ℕ) → IsLexed text tokens names (stop.BadByte at)
      → Viable (kinds tokens) → IsFaultOf text (BadByte at)
  -- all tokens before the number begin some program
  bad_number : {tokens : List Token} {names : List (List ℕ)} (at : ℕ) → IsLexed text tokens names (stop.BadNumber at)
      → Viable (kinds tokens) → IsFaultOf text (BadNumber at)
  -- the tokens up to the bracket, and with it, begin some program
  too_deep : {tokens : List Token} {names : List (List ℕ)} (at : ℕ) → IsLexed text tokens names (stop.TooDeep at)
      → Viable (kinds tokens) → IsFaultOf text (TooDeep at)
  -- a token with which the text leaves the grammar
  unexpected : {tokens : List Token} {names : List (List ℕ)} {end : Stop} (n : ℕ) (t : Token) → IsLexed text tokens names end
      → IsUnexpected tokens n → slice_get tokens n ≡ Some t → IsFaultOf text (Unexpected t.at)
  -- all tokens begin some program, and are none
  cut_off : {tokens : List Token} {names : List (List ℕ)} → IsLexed text tokens names stop.Done
      → IsUnexpected tokens (length tokens) → IsFaultOf text (Unexpected (length text))
  -- the first fault of names and limits
  of_names : {tokens : List Token} {names : List (List ℕ)} {raw : RawTree} (f : Fault) → IsLexed text tokens names stop.Done → IsProgram tokens raw
      → IsFirst f (faults raw) → IsFaultOf text (as_source f)

-- what a refusal says: the text stands for no program and this is its fault, but where memory was wanting
abbrev pub IsRefused : List ℕ → SourceFault → Type 0
IsRefused text OutOfMemory = Unit {0}
IsRefused text f = IsFaultOf text f × ((p : Tree) → Stands text p → ⊥)
