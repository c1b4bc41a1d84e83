-- The source that is made of a number.
use Rattle.std.specs.Prelude.{ℕ, List, [], ◌∷◌, ◌++◌, codes}
use Rattle.std.specs.Fmt.{decimal}

-- lines, each ended by a line feed
abbrev pub text_of : List (List ℕ) → List ℕ
text_of [] = []
text_of (line ∷ lines) = line ++ 10 ∷ text_of lines

abbrev pub declaration_lines : List (List ℕ)
declaration_lines = codes "priority bg;" ∷ codes "priority ui;" ∷ codes "order bg < ui;" ∷ []

-- a leaf writes the square of its number, and gives what is left of the number by sevens
abbrev pub leaf_lines : List (List ℕ)
leaf_lines =
    codes "proc leaf(k : int) at bg : int {" ∷ codes "  u <- output (k * k);" ∷ codes "  ret (k % 7)" ∷ codes "}" ∷ []

-- a chain spawns a leaf for each number down to 1, and adds what they give
abbrev pub chain_lines : List (List ℕ)
chain_lines =
    codes "proc chain(k : int) at bg : int {"
    ∷ codes "  if (k < 1) { ret 0 }"
    ∷ codes "  else {"
    ∷ codes "    h <- spawn[bg] { x <- call leaf(k); ret x };"
    ∷ codes "    r <- call chain((k - 1));"
    ∷ codes "    v <- sync h;"
    ∷ codes "    ret (r + v)"
    ∷ codes "  }"
    ∷ codes "}"
    ∷ []

-- the root spawns the chain, writes the number and gives it
abbrev pub main_lines : ℕ → List (List ℕ)
main_lines n =
    codes "main at ui : int {"
    ∷ (codes "  h <- spawn[bg] { x <- call chain(" ++ decimal n ++ codes "); ret x };")
    ∷ (codes "  u <- output " ++ decimal n ++ codes ";")
    ∷ (codes "  ret " ++ decimal n)
    ∷ codes "}"
    ∷ []

-- the whole text
abbrev pub made_text : ℕ → List ℕ
made_text n = text_of declaration_lines ++ text_of leaf_lines ++ text_of chain_lines ++ text_of (main_lines n)
