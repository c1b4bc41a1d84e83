-- Lexemes as the first bytes of a text tell them.
use Rattle.std.specs.Prelude.{◌≡◌, ◌≢◌, ℕ, List, IsTrue}
use Rattle.source_tokens.specs.declared.token.Sign.{Sign}
use Rattle.source_tokens.specs.declared.token.Sign.TheVariants as s
use Rattle.source_tokens.specs.declared.form.Form.{Form}
use Rattle.source_tokens.specs.declared.form.Form.TheVariants as f
use Rattle.source_tokens.specs.Lexemes.{is_word, is_number, sign_spelling}

-- the longest sign of a text with these first two bytes
abbrev pub IsSignAt : Sign → ℕ → ℕ → Type 0
IsSignAt s.Arrow b c = (b ≡ 60) × (c ≡ 45)
IsSignAt s.AtMost b c = (b ≡ 60) × (c ≡ 61)
IsSignAt s.Equal b c = (b ≡ 61) × (c ≡ 61)
IsSignAt s.Less b c = (b ≡ 60) × (c ≢ 45) × (c ≢ 61)
IsSignAt s.Plus b c = b ≡ 43
IsSignAt s.Minus b c = b ≡ 45
IsSignAt s.Star b c = b ≡ 42
IsSignAt s.Slash b c = b ≡ 47
IsSignAt s.Percent b c = b ≡ 37
IsSignAt s.OpenParen b c = b ≡ 40
IsSignAt s.CloseParen b c = b ≡ 41
IsSignAt s.OpenBrace b c = b ≡ 123
IsSignAt s.CloseBrace b c = b ≡ 125
IsSignAt s.OpenBracket b c = b ≡ 91
IsSignAt s.CloseBracket b c = b ≡ 93
IsSignAt s.Comma b c = b ≡ 44
IsSignAt s.Semicolon b c = b ≡ 59
IsSignAt s.Colon b c = b ≡ 58

-- the lexeme has this form
abbrev pub IsForm : Form → List ℕ → Type 0
IsForm f.Word lexeme = IsTrue (is_word lexeme)
IsForm f.Number lexeme = IsTrue (is_number lexeme)
IsForm (f.Sign s) lexeme = lexeme ≡ sign_spelling s
