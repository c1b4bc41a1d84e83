-- The distinct names of a text, as an index set of spellings keeps them.
use Rattle.std.specs.Prelude.{◌≡◌, ℕ, ◌^◌, ◌≤◌, List, [], ◌∷◌, ◌++◌, ◌⊎◌, length, map, slice_get, Some}
use Rattle.std.specs.HashSet.{HashSet}
use Rattle.std.specs.declared.vec.Vec.{Vec}
use Rattle.priml_io.specs.Words.{value_of}
use Rattle.source_tokens.specs.Lexes.{IsNew}
use Rattle.source_tokens.specs.declared.form.Form.{Form}
use Rattle.source_tokens.specs.declared.form.Form.TheVariants as f
use Rattle.source_tokens.specs.declared.lexer.Lexed.{Lexed}

-- the bytes of the names of a set, in its order
abbrev pub name_bytes : {Z S : Type 0} → HashSet (Vec ℕ Z) S → List (List ℕ)
name_bytes names = map (λ v. v.items) names.keys

-- the distinct names of a text that was cut into tokens
abbrev pub spellings : Lexed → List (List ℕ)
spellings lexed = name_bytes lexed.names

-- a name has this number among the known ones, or becomes the last of them
abbrev pub IsNumbered : List (List ℕ) → List ℕ → ℕ → List (List ℕ) → Type 0
IsNumbered known name id names =
    ((slice_get known id ≡ Some name) × (names ≡ known)) ⊎ (IsNew known name × (id ≡ length known) × (names ≡ known ++ (name ∷ [])))

-- a number whose value is two to the 63 or more
abbrev pub IsTooLarge : Form → List ℕ → Type 0
IsTooLarge f.Number lexeme = 2 ^ 63 ≤ value_of lexeme
IsTooLarge f.Word lexeme = ⊥
IsTooLarge (f.Sign s) lexeme = ⊥
