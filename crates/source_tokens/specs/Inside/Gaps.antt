-- How the lexer comes to the next token: by a look at each byte.
use Rattle.std.specs.Prelude.{ℕ, List, [], ◌∷◌, Bool, false, not, ◌||◌, ◌==◌, if◌then◌else◌}
use Rattle.source_tokens.specs.Lexemes.{is_separator}

-- a byte that is part of no token: inside a comment any byte, outside a separator or the `#` that begins a comment
abbrev pub is_passed : Bool → ℕ → Bool
is_passed in_comment b = in_comment || (is_separator b || (b == 35))

-- whether a comment is open behind such a byte: `#` opens one, and a line feed ends it
abbrev pub keeps_comment : Bool → ℕ → Bool
keeps_comment in_comment b = if in_comment then not (b == 10) else b == 35

-- what is left behind separators and comments of bytes that begin inside a comment or not
abbrev pub behind : Bool → List ℕ → List ℕ
behind in_comment [] = []
behind in_comment (b ∷ bs) = if is_passed in_comment b then behind (keeps_comment in_comment b) bs else b ∷ bs

-- what is left of a text behind separators and comments: the next token begins here
abbrev pub begins : List ℕ → List ℕ
begins bs = behind false bs
