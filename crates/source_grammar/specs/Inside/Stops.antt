-- What a reading function does to the tokens: an answer takes what the symbol stands for, and a refusal for syntax leaves the token with which the
-- text leaves the grammar.
use Rattle.std.specs.Prelude.{◌≡◌, List, ◌∷◌, ◌++◌, Result, Ok, Err, Some, None}
use Rattle.source_tokens.specs.declared.token.Token.{Token}
use Rattle.source_grammar.specs.declared.cursor.Stop.{Stop}
use Rattle.source_grammar.specs.declared.cursor.Stop.TheVariants as stop
use Rattle.source_grammar.specs.Inside.Machine.{Symbol, halt}

-- the symbol `x` is read, or the tokens leave it
abbrev pub Moves : {A : Type 0} → Symbol → List Token → List Token → Result A Stop → Type 0
Moves x old new (Ok a) = (xs : List Symbol) → halt (x ∷ xs) old ≡ halt xs new
Moves x old new (Err stop.Syntax) = (xs : List Symbol) → halt (x ∷ xs) old ≡ Some new
Moves x old new (Err stop.Memory) = Unit {0}

-- the symbol `x` is read as far as the symbols `zs`, or the tokens leave it
abbrev pub MovesTo : {A : Type 0} → Symbol → List Symbol → List Token → List Token → Result A Stop → Type 0
MovesTo x zs old new (Ok a) = (xs : List Symbol) → halt (x ∷ xs) old ≡ halt (zs ++ xs) new
MovesTo x zs old new (Err stop.Syntax) = (xs : List Symbol) → halt (x ∷ xs) old ≡ Some new
MovesTo x zs old new (Err stop.Memory) = Unit {0}

-- the tokens are all that the symbols stand for, or leave them
abbrev pub MovesAll : {A : Type 0} → List Symbol → List Token → List Token → Result A Stop → Type 0
MovesAll xs old new (Ok a) = halt xs old ≡ None
MovesAll xs old new (Err stop.Syntax) = halt xs old ≡ Some new
MovesAll xs old new (Err stop.Memory) = Unit {0}
