-- A list of tokens in runs.
use Rattle.std.specs.Prelude.{List}
use Rattle.std.specs.List.{flat_map}
use Rattle.std.specs.declared.vec.Vec.{Vec}
use Rattle.source_tokens.specs.declared.token.Token.{Token}

-- the tokens of the runs, in order
abbrev pub joined : {Z : Type 0} → List (Vec Token Z) → List Token
joined runs = flat_map (λ run. run.items) runs
