-- What holds of every list of tokens.
use Rattle.std.specs.Prelude.{ℕ, List}
use Rattle.source_tokens.specs.declared.token.Token.{Token}
use Rattle.source_grammar.specs.Faults.{IsUnexpected}
use Rattle.source_grammar.specs.Grammar.{IsProgram}
use Rattle.source_grammar.specs.RawTree.{RawTree}

-- the tokens stand for a program, or leave the grammar at a place
pub data IsDecided (ts : List Token) : Type 0 where
  stands : (p : RawTree) → IsProgram ts p → IsDecided ts
  leaves : (n : ℕ) → IsUnexpected ts n → IsDecided ts
