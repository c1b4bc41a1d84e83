-- The text of a number by pieces. The names are 0 bg, 1 ui, 2 leaf, 3 k, 4 u, 5 chain, 6 h, 7 x, 8 r, 9 v.
use Rattle.std.proofs.Common.{ℕ, List, [], ◌∷◌}
use Rattle.source_tokens.specs.declared.token.Word.{Word}
use Rattle.source_tokens.specs.declared.token.Word.TheVariants as w
use Rattle.source_tokens.specs.declared.token.Sign.{Sign}
use Rattle.source_tokens.specs.declared.token.Sign.TheVariants as s
use Rattle.source_maker.proofs.Pieces.{Piece, a_word, a_sign, a_name, digit, numeral}

-- what stands before a token: nothing, a space, or a line feed and spaces
abbrev none : List ℕ
none = []

abbrev space : List ℕ
space = 32 ∷ []

abbrev line : List ℕ
line = 10 ∷ []

abbrev line_two : List ℕ
line_two = 10 ∷ 32 ∷ 32 ∷ []

abbrev line_four : List ℕ
line_four = 10 ∷ 32 ∷ 32 ∷ 32 ∷ 32 ∷ []

abbrev word : List ℕ → Word → Piece
word gap v = record { gap = gap; written = a_word v }

abbrev sign : List ℕ → Sign → Piece
sign gap x = record { gap = gap; written = a_sign x }

abbrev name : List ℕ → ℕ → Piece
name gap id = record { gap = gap; written = a_name id }

abbrev small : List ℕ → ℕ → Piece
small gap d = record { gap = gap; written = digit d }

abbrev number : List ℕ → ℕ → Piece
number gap n = record { gap = gap; written = numeral n }

-- the declarations of priorities
abbrev pub declaration_pieces : List Piece
declaration_pieces =
    word none w.Priority ∷ name space 0 ∷ sign none s.Semicolon
    ∷ word line w.Priority ∷ name space 1 ∷ sign none s.Semicolon
    ∷ word line w.Order ∷ name space 0 ∷ sign space s.Less ∷ name space 1 ∷ sign none s.Semicolon ∷ []

-- the procedure leaf
abbrev pub leaf_pieces : List Piece
leaf_pieces =
    word line w.Proc ∷ name space 2 ∷ sign none s.OpenParen ∷ name none 3 ∷ sign space s.Colon ∷ word space w.Int ∷ sign none s.CloseParen ∷ word space w.At ∷ name space 0 ∷ sign space s.Colon ∷ word space w.Int ∷ sign space s.OpenBrace
    ∷ name line_two 4 ∷ sign space s.Arrow ∷ word space w.Output ∷ sign space s.OpenParen ∷ name none 3 ∷ sign space s.Star ∷ name space 3 ∷ sign none s.CloseParen ∷ sign none s.Semicolon
    ∷ word line_two w.Ret ∷ sign space s.OpenParen ∷ name none 3 ∷ sign space s.Percent ∷ small space 7 ∷ sign none s.CloseParen
    ∷ sign line s.CloseBrace ∷ []

-- the procedure chain
abbrev pub chain_pieces : List Piece
chain_pieces =
    word line w.Proc ∷ name space 5 ∷ sign none s.OpenParen ∷ name none 3 ∷ sign space s.Colon ∷ word space w.Int ∷ sign none s.CloseParen ∷ word space w.At ∷ name space 0 ∷ sign space s.Colon ∷ word space w.Int ∷ sign space s.OpenBrace
    ∷ word line_two w.If ∷ sign space s.OpenParen ∷ name none 3 ∷ sign space s.Less ∷ small space 1 ∷ sign none s.CloseParen ∷ sign space s.OpenBrace ∷ word space w.Ret ∷ small space 0 ∷ sign space s.CloseBrace
    ∷ word line_two w.Else ∷ sign space s.OpenBrace
    ∷ name line_four 6 ∷ sign space s.Arrow ∷ word space w.Spawn ∷ sign none s.OpenBracket ∷ name none 0 ∷ sign none s.CloseBracket ∷ sign space s.OpenBrace ∷ name space 7 ∷ sign space s.Arrow ∷ word space w.Call ∷ name space 2 ∷ sign none s.OpenParen ∷ name none 3 ∷ sign none s.CloseParen ∷ sign none s.Semicolon ∷ word space w.Ret ∷ name space 7 ∷ sign space s.CloseBrace ∷ sign none s.Semicolon
    ∷ name line_four 8 ∷ sign space s.Arrow ∷ word space w.Call ∷ name space 5 ∷ sign none s.OpenParen ∷ sign none s.OpenParen ∷ name none 3 ∷ sign space s.Minus ∷ small space 1 ∷ sign none s.CloseParen ∷ sign none s.CloseParen ∷ sign none s.Semicolon
    ∷ name line_four 9 ∷ sign space s.Arrow ∷ word space w.Sync ∷ name space 6 ∷ sign none s.Semicolon
    ∷ word line_four w.Ret ∷ sign space s.OpenParen ∷ name none 8 ∷ sign space s.Plus ∷ name space 9 ∷ sign none s.CloseParen
    ∷ sign line_two s.CloseBrace
    ∷ sign line s.CloseBrace ∷ []

-- the main up to its first number, up to its second, up to its third, and its end
abbrev pub main_start : ℕ → List Piece
main_start n =
    word line w.Main ∷ word space w.At ∷ name space 1 ∷ sign space s.Colon ∷ word space w.Int ∷ sign space s.OpenBrace
    ∷ name line_two 6 ∷ sign space s.Arrow ∷ word space w.Spawn ∷ sign none s.OpenBracket ∷ name none 0 ∷ sign none s.CloseBracket ∷ sign space s.OpenBrace ∷ name space 7 ∷ sign space s.Arrow ∷ word space w.Call ∷ name space 5 ∷ sign none s.OpenParen ∷ number none n ∷ []

abbrev pub main_next : ℕ → List Piece
main_next n =
    sign none s.CloseParen ∷ sign none s.Semicolon ∷ word space w.Ret ∷ name space 7 ∷ sign space s.CloseBrace ∷ sign none s.Semicolon
    ∷ name line_two 4 ∷ sign space s.Arrow ∷ word space w.Output ∷ number space n ∷ []

abbrev pub main_last : ℕ → List Piece
main_last n =
    sign none s.Semicolon
    ∷ word line_two w.Ret ∷ number space n ∷ []

abbrev pub main_end : List Piece
main_end =
    sign line s.CloseBrace ∷ []
