-- The forms of tokens: words, numbers and signs, and the separators and comments between them.
use Rattle.std.specs.Prelude.{◌≡◌, ℕ, List, [], ◌∷◌, ◌++◌, Bool, true, false, not, ◌||◌, ◌&&◌, ◌==◌, nat_le, codes, IsTrue}
use Rattle.std.specs.List.{list_all}
use Rattle.source_tokens.specs.declared.token.Word.{Word}
use Rattle.source_tokens.specs.declared.token.Word.TheVariants as w
use Rattle.source_tokens.specs.declared.token.Sign.{Sign}
use Rattle.source_tokens.specs.declared.token.Sign.TheVariants as s

-- a space, a tab, a carriage return or a line feed
abbrev pub is_separator : ℕ → Bool
is_separator b = (b == 32) || ((b == 9) || ((b == 13) || (b == 10)))

-- no line feed is among the bytes
abbrev pub is_line : List ℕ → Bool
is_line bs = list_all (λ b. not (b == 10)) bs

-- a line ends here: at a line feed, or at the end
abbrev pub ends_line : List ℕ → Bool
ends_line [] = true
ends_line (b ∷ bs) = b == 10

-- neither a separator nor a comment, which begins with `#`, stands here
abbrev pub ends_gap : List ℕ → Bool
ends_gap [] = true
ends_gap (b ∷ bs) = not (is_separator b) && not (b == 35)

-- `bs` are separators and comments, each up to the end of its line, and then `left`, where the next token begins
pub data Skips : List ℕ → List ℕ → Type 0 where
  here : {bs left : List ℕ} → IsTrue (ends_gap bs) → left ≡ bs → Skips bs left
  separator : {bs left : List ℕ} (b : ℕ) (more : List ℕ) → bs ≡ b ∷ more → IsTrue (is_separator b) → Skips more left → Skips bs left
  comment : {bs left : List ℕ} (said more : List ℕ) → bs ≡ 35 ∷ (said ++ more) → IsTrue (is_line said) → IsTrue (ends_line more)
      → Skips more left → Skips bs left

-- a digit, `0` to `9`
abbrev pub is_digit : ℕ → Bool
is_digit b = nat_le 48 b && nat_le b 57

-- what a word may begin with: a letter or `_`
abbrev pub begins_word : ℕ → Bool
begins_word b = (nat_le 97 b && nat_le b 122) || ((nat_le 65 b && nat_le b 90) || (b == 95))

-- what may stand further on in a word: a letter, `_` or a digit
abbrev pub is_part : ℕ → Bool
is_part b = begins_word b || is_digit b

-- the form of a word or a name
abbrev pub is_word : List ℕ → Bool
is_word [] = false
is_word (b ∷ bs) = begins_word b && list_all is_part bs

-- one or more digits
abbrev pub is_number : List ℕ → Bool
is_number [] = false
is_number (b ∷ bs) = is_digit b && list_all is_digit bs

-- the bytes of what is written
abbrev pub Spelling : Type 0
Spelling = List ℕ

-- the bytes of a reserved word
abbrev pub word_spelling : (word : Word) → Spelling
word_spelling w.Priority = codes "priority"
word_spelling w.Order = codes "order"
word_spelling w.Proc = codes "proc"
word_spelling w.Main = codes "main"
word_spelling w.At = codes "at"
word_spelling w.Ret = codes "ret"
word_spelling w.Spawn = codes "spawn"
word_spelling w.Sync = codes "sync"
word_spelling w.Call = codes "call"
word_spelling w.Do = codes "do"
word_spelling w.Input = codes "input"
word_spelling w.Output = codes "output"
word_spelling w.If = codes "if"
word_spelling w.Else = codes "else"
word_spelling w.Case = codes "case"
word_spelling w.Inl = codes "inl"
word_spelling w.Inr = codes "inr"
word_spelling w.Fst = codes "fst"
word_spelling w.Snd = codes "snd"
word_spelling w.Not = codes "not"
word_spelling w.And = codes "and"
word_spelling w.Or = codes "or"
word_spelling w.True = codes "true"
word_spelling w.False = codes "false"
word_spelling w.Unit = codes "unit"
word_spelling w.Bool = codes "bool"
word_spelling w.Int = codes "int"
word_spelling w.Thread = codes "thread"

-- the bytes of a sign
abbrev pub sign_spelling : Sign → Spelling
sign_spelling s.Arrow = codes "<-"
sign_spelling s.AtMost = codes "<="
sign_spelling s.Equal = codes "=="
sign_spelling s.Less = codes "<"
sign_spelling s.Plus = codes "+"
sign_spelling s.Minus = codes "-"
sign_spelling s.Star = codes "*"
sign_spelling s.Slash = codes "/"
sign_spelling s.Percent = codes "%"
sign_spelling s.OpenParen = codes "("
sign_spelling s.CloseParen = codes ")"
sign_spelling s.OpenBrace = codes "{"
sign_spelling s.CloseBrace = codes "}"
sign_spelling s.OpenBracket = codes "["
sign_spelling s.CloseBracket = codes "]"
sign_spelling s.Comma = codes ","
sign_spelling s.Semicolon = codes ";"
sign_spelling s.Colon = codes ":"

-- the bytes of some token, or of a number that is too large for one
pub data IsLexeme (bs : List ℕ) : Type 0 where
  of_word : IsTrue (is_word bs) → IsLexeme bs
  of_digits : IsTrue (is_number bs) → IsLexeme bs
  of_sign : (s : Sign) → bs ≡ sign_spelling s → IsLexeme bs

-- none of the bytes that follow make the lexeme longer
abbrev pub IsLongest : List ℕ → List ℕ → Type 0
IsLongest lexeme rest = (b : ℕ) (more last : List ℕ) → rest ≡ (b ∷ more) ++ last → IsLexeme (lexeme ++ (b ∷ more)) → ⊥

-- no front of these bytes is a lexeme
abbrev pub BeginsNone : List ℕ → Type 0
BeginsNone bs = (front rest : List ℕ) → bs ≡ front ++ rest → IsLexeme front → ⊥
