-- The tokens of a text: at each place the longest lexeme is taken, up to the end or the first fault.
use Rattle.std.specs.Prelude.{◌≡◌, ◌≢◌, ℕ, ◌+◌, ◌-◌, ◌^◌, ◌≤◌, ◌<◌, List, [], ◌∷◌, ◌++◌, length, slice_get, Some, Bool, true, false, if◌then◌else◌, IsTrue}
use Rattle.priml_io.specs.Words.{value_of}
use Rattle.source_tokens.specs.declared.token.Word.{Word}
use Rattle.source_tokens.specs.declared.token.Sign.{Sign}
use Rattle.source_tokens.specs.declared.token.Sign.TheVariants as s
use Rattle.source_tokens.specs.declared.token.Kind.{Kind}
use Rattle.source_tokens.specs.declared.token.Kind.TheVariants as k
use Rattle.source_tokens.specs.declared.token.Token.{Token}
use Rattle.source_tokens.specs.declared.token.Stop.{Stop}
use Rattle.source_tokens.specs.declared.token.Stop.TheVariants as stop
use Rattle.source_tokens.specs.Lexemes.{Skips, is_word, is_number, word_spelling, sign_spelling, IsLongest, BeginsNone}

-- a name has the form of a word and is not reserved
pub record IsName (lexeme : List ℕ) : Type 0 where
  pub formed : IsTrue (is_word lexeme)
  pub free : (w : Word) → lexeme ≢ word_spelling w

-- no name stands at two places
abbrev pub IsDistinct : List (List ℕ) → Type 0
IsDistinct names = (j k : ℕ) (name : List ℕ) → slice_get names j ≡ Some name → slice_get names k ≡ Some name → j ≡ k

-- a name is none of the known ones
abbrev pub IsNew : List (List ℕ) → List ℕ → Type 0
IsNew known name = (id : ℕ) → slice_get known id ≢ Some name

-- a lexeme writes a token of this kind, where `known` are the distinct names so far and `names` those with this one
pub data Spells (known : List (List ℕ)) (lexeme : List ℕ) (kind : Kind) (names : List (List ℕ)) : Type 0 where
  word : (w : Word) → lexeme ≡ word_spelling w → kind ≡ k.Word w → names ≡ known → Spells known lexeme kind names
  sign : (s : Sign) → lexeme ≡ sign_spelling s → kind ≡ k.Sign s → names ≡ known → Spells known lexeme kind names
  number : IsTrue (is_number lexeme) → value_of lexeme < 2 ^ 63 → kind ≡ k.Number (value_of lexeme) → names ≡ known → Spells known lexeme kind names
  old_name : (id : ℕ) → IsName lexeme → slice_get known id ≡ Some lexeme → kind ≡ k.Name id → names ≡ known → Spells known lexeme kind names
  new_name : IsName lexeme → IsNew known lexeme → kind ≡ k.Name (length known) → names ≡ known ++ (lexeme ∷ []) → Spells known lexeme kind names

-- `(`, `[` and `{` open a bracket
abbrev pub opens : Kind → Bool
opens (k.Sign s.OpenParen) = true
opens (k.Sign s.OpenBracket) = true
opens (k.Sign s.OpenBrace) = true
opens _ = false

-- `)`, `]` and `}` close one
abbrev pub closes : Kind → Bool
closes (k.Sign s.CloseParen) = true
closes (k.Sign s.CloseBracket) = true
closes (k.Sign s.CloseBrace) = true
closes _ = false

-- how many brackets are open behind a token
abbrev pub open_behind : Kind → ℕ → ℕ
open_behind kind depth = if opens kind then depth + 1 else (if closes kind then depth - 1 else depth)

-- the offset of `left`, the end of a text of `total` bytes
abbrev pub place : ℕ → List ℕ → ℕ
place total left = total - length left

-- the bytes `bs` at the end of a text of `total` bytes are these tokens and end so, where `depth` brackets are open
-- and `known` are the distinct names before them; `names` are those of the whole text
pub data Lexes (total : ℕ) : ℕ → List (List ℕ) → List ℕ → List Token → List (List ℕ) → Stop → Type 0 where
  -- nothing is left
  done : {depth : ℕ} {known : List (List ℕ)} {bs : List ℕ} {tokens : List Token} {names : List (List ℕ)} {end : Stop}
      → Skips bs [] → tokens ≡ [] → names ≡ known → end ≡ stop.Done
      → Lexes total depth known bs tokens names end
  -- something is left, and no front of it is a lexeme
  bad_byte : {depth : ℕ} {known : List (List ℕ)} {bs : List ℕ} {tokens : List Token} {names : List (List ℕ)} {end : Stop}
      (b : ℕ) (rest : List ℕ) → Skips bs (b ∷ rest) → BeginsNone (b ∷ rest)
      → tokens ≡ [] → names ≡ known → end ≡ stop.BadByte (place total (b ∷ rest))
      → Lexes total depth known bs tokens names end
  -- the whole run of digits has too large a value
  bad_number : {depth : ℕ} {known : List (List ℕ)} {bs : List ℕ} {tokens : List Token} {names : List (List ℕ)} {end : Stop}
      (lexeme rest : List ℕ) → Skips bs (lexeme ++ rest) → IsLongest lexeme rest → IsTrue (is_number lexeme) → 2 ^ 63 ≤ value_of lexeme
      → tokens ≡ [] → names ≡ known → end ≡ stop.BadNumber (place total (lexeme ++ rest))
      → Lexes total depth known bs tokens names end
  -- a bracket opens while 64 are open
  too_deep : {depth : ℕ} {known : List (List ℕ)} {bs : List ℕ} {tokens : List Token} {names : List (List ℕ)} {end : Stop}
      (lexeme rest : List ℕ) (kind : Kind) → Skips bs (lexeme ++ rest) → IsLongest lexeme rest → Spells known lexeme kind names
      → IsTrue (opens kind) → 64 ≤ depth
      → tokens ≡ record { at = place total (lexeme ++ rest); kind = kind } ∷ [] → end ≡ stop.TooDeep (place total (lexeme ++ rest))
      → Lexes total depth known bs tokens names end
  -- a token and what follows it
  next : {depth : ℕ} {known : List (List ℕ)} {bs : List ℕ} {tokens : List Token} {names : List (List ℕ)} {end : Stop}
      (lexeme rest : List ℕ) (kind : Kind) (later : List (List ℕ)) (more : List Token)
      → Skips bs (lexeme ++ rest) → IsLongest lexeme rest → Spells known lexeme kind later
      → (IsTrue (opens kind) → depth < 64)
      → tokens ≡ record { at = place total (lexeme ++ rest); kind = kind } ∷ more
      → Lexes total (open_behind kind depth) later rest more names end
      → Lexes total depth known bs tokens names end

-- the text is these tokens, over these distinct names in the order of their first occurrence, and ends so
abbrev pub IsLexed : List ℕ → List Token → List (List ℕ) → Stop → Type 0
IsLexed text tokens names end = Lexes (length text) 0 [] text tokens names end
