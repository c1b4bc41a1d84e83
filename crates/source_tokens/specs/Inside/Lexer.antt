-- What the tokens so far and the rest of a text have to do with the whole.
use Rattle.std.specs.Prelude.{ℕ, List, ◌++◌}
use Rattle.source_tokens.specs.declared.token.Token.{Token}
use Rattle.source_tokens.specs.declared.token.Stop.{Stop}
use Rattle.source_tokens.specs.declared.lexer.Lexer.{Lexer}
use Rattle.source_tokens.specs.Lexes.{Lexes, IsLexed}
use Rattle.source_tokens.specs.Names.{name_bytes}
use Rattle.source_tokens.specs.Runs.{joined}

-- the tokens so far
abbrev pub tokens_of : Lexer → List Token
tokens_of l = joined l.runs.items ++ l.run.items

-- whatever the rest of the text is, with the tokens before it, is the text
abbrev pub Completes : List ℕ → Lexer → Type 0
Completes text l =
    (ts : List Token) (ns : List (List ℕ)) (end : Stop) → Lexes l.total l.depth (name_bytes l.names) l.rest.now ts ns end
    → IsLexed text (tokens_of l ++ ts) ns end

-- the text is the tokens and the names so far, and ends so
abbrev pub Ends : List ℕ → Lexer → Stop → Type 0
Ends text l end = IsLexed text (tokens_of l) (name_bytes l.names) end
