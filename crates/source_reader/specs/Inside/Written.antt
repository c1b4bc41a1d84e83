-- How a tree is written in a text, and what a refusal of its names says.
use Rattle.std.specs.Prelude.{◌≡◌, ℕ, List, ◌∷◌, Option, Some, None}
use Rattle.source_tokens.specs.declared.token.Token.{Token}
use Rattle.source_tokens.specs.declared.token.Stop.{Stop}
use Rattle.source_tokens.specs.declared.token.Stop.TheVariants as stop
use Rattle.source_tokens.specs.Lexes.{IsLexed}
use Rattle.source_grammar.specs.RawTree.{RawTree}
use Rattle.source_grammar.specs.Grammar.{IsProgram}
use Rattle.source_reader.specs.declared.faults.Fault.{Fault}
use Rattle.source_reader.specs.declared.reader.SourceFault.{SourceFault}
use Rattle.source_reader.specs.declared.reader.SourceFault.TheVariants.{BadByte, BadNumber, TooDeep}
use Rattle.source_reader.specs.Stands.{as_source}

-- the tokens of the whole text, over these distinct names, are those of the tree
pub record IsWrittenAs (text : List ℕ) (names : List (List ℕ)) (raw : RawTree) : Type 0 where
  pub tokens : List Token
  pub lexed : IsLexed text tokens names stop.Done
  pub derived : IsProgram tokens raw

-- the fault at which a text stops before its end
abbrev pub stop_fault : Stop → Option SourceFault
stop_fault stop.Done = None
stop_fault (stop.BadByte at) = Some (BadByte at)
stop_fault (stop.BadNumber at) = Some (BadNumber at)
stop_fault (stop.TooDeep at) = Some (TooDeep at)

-- the fault of a text is the first of these
pub record IsFirstOf (faults : List Fault) (e : SourceFault) : Type 0 where
  pub fault : Fault
  pub rest : List Fault
  pub among : faults ≡ fault ∷ rest
  pub is : e ≡ as_source fault
