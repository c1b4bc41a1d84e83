-- A text by pieces: what stands before a token, and the token.
use Rattle.std.proofs.Common.{ℕ, ◌+◌, ◌^◌, List, [], ◌∷◌, ◌++◌, length, Bool, true, get_or, if◌then◌else◌}
use Rattle.std.specs.Prelude.{codes, ◌&&◌, ◌||◌, not, ◌==◌, nat_lt, nat_le}
use Rattle.std.specs.List.{list_all}
use Rattle.std.specs.Fmt.{decimal}
use Rattle.source_tokens.specs.declared.token.Word.{Word}
use Rattle.source_tokens.specs.declared.token.Sign.{Sign}
use Rattle.source_tokens.specs.declared.token.Sign.TheVariants as s
use Rattle.source_tokens.specs.declared.token.Kind.{Kind}
use Rattle.source_tokens.specs.declared.token.Kind.TheVariants as k
use Rattle.source_tokens.specs.declared.token.Token.{Token}
use Rattle.source_tokens.specs.Lexemes.{is_separator, is_digit, is_part, word_spelling, sign_spelling}
use Rattle.source_tokens.specs.Lexes.{open_behind}

-- the distinct names of the text, in the order of their first places
abbrev pub names : List (List ℕ)
names = codes "bg" ∷ codes "ui" ∷ codes "leaf" ∷ codes "k" ∷ codes "u" ∷ codes "chain" ∷ codes "h" ∷ codes "x" ∷ codes "r" ∷ codes "v" ∷ []

-- a token by what it is written as: a number of one digit or of several
pub data Written : Type 0 where
  a_word : Word → Written
  a_sign : Sign → Written
  a_name digit numeral : ℕ → Written

abbrev pub spelling : Written → List ℕ
spelling (a_word w) = word_spelling w
spelling (a_sign s) = sign_spelling s
spelling (a_name id) = get_or names id []
spelling (digit d) = (48 + d) ∷ []
spelling (numeral n) = decimal n

abbrev pub kind_of : Written → Kind
kind_of (a_word w) = k.Word w
kind_of (a_sign s) = k.Sign s
kind_of (a_name id) = k.Name id
kind_of (digit d) = k.Number d
kind_of (numeral n) = k.Number n

pub record Piece : Type 0 where
  pub gap : List ℕ
  pub written : Written

-- the text of pieces, and then the rest
abbrev pub render : List Piece → List ℕ → List ℕ
render [] rest = rest
render (p ∷ ps) rest = p.gap ++ (spelling p.written ++ render ps rest)

-- the number of bytes of pieces
abbrev pub width : List Piece → ℕ
width [] = 0
width (p ∷ ps) = length p.gap + (length (spelling p.written) + width ps)

-- the tokens of pieces behind so many bytes, and then more
abbrev pub tokens : ℕ → ℕ → List Piece → List Token → List Token
tokens base at [] more = more
tokens base at (p ∷ ps) more =
    record { at = base + (at + length p.gap); kind = kind_of p.written } ∷ tokens base (at + length p.gap + length (spelling p.written)) ps more

-- how many brackets are open behind pieces, and how many names have been met
abbrev pub depth_behind : List Piece → ℕ → ℕ
depth_behind [] depth = depth
depth_behind (p ∷ ps) depth = depth_behind ps (open_behind (kind_of p.written) depth)

abbrev pub counted : Written → ℕ → ℕ
counted (a_name id) count = if id == count then count + 1 else count
counted w count = count

abbrev pub count_behind : List Piece → ℕ → ℕ
count_behind [] count = count
count_behind (p ∷ ps) count = count_behind ps (counted p.written count)

-- no longer sign begins with this one and the byte
abbrev pub ends_sign : Sign → ℕ → Bool
ends_sign s.Less b = not ((b == 45) || (b == 61))
ends_sign _ b = true

-- the token is the longest where this byte follows, and its name is one of those met, or the next
abbrev pub ends_well : Written → ℕ → ℕ → Bool
ends_well (a_word w) count b = not (is_part b)
ends_well (a_sign x) count b = ends_sign x b
ends_well (a_name id) count b = nat_le id count && (nat_lt id 10 && not (is_part b))
ends_well (digit d) count b = nat_lt d 10 && not (is_digit b)
ends_well (numeral n) count b = nat_lt n (2 ^ 63) && not (is_digit b)

-- each piece is well written, where so many brackets are open and so many names have been met before them
abbrev pub checked : List Piece → ℕ → ℕ → List ℕ → Bool
checked [] depth count rest = true
checked (p ∷ ps) depth count rest =
    list_all is_separator p.gap && (nat_lt depth 64 && (ends_well p.written count (get_or (render ps rest) 0 0) && checked ps (open_behind (kind_of p.written) depth) (counted p.written count) rest))
