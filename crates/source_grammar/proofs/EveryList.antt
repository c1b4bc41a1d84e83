-- Every list of tokens stands for a program, or leaves the grammar at a place: the machine tells which.
use Rattle.std.proofs.Common.{◌≡◌, List, [], ◌∷◌, Option, Some, None, length, refl}
use Rattle.source_tokens.specs.declared.token.Token.{Token}
use Rattle.source_grammar.specs.Laws.{IsDecided, stands, leaves}
use Rattle.source_grammar.specs.Inside.Machine.{halt, Program}
use Rattle.source_grammar.proofs.SoundBlocks.{program_found}
use Rattle.source_grammar.proofs.Unexpected.{placed}
use Rattle.source_grammar.proofs.Viable.{halt_rest}

pub every_list : (ts : List Token) → IsDecided ts
every_list ts = by (halt (Program ∷ []) ts) refl
  where
    by : (o : Option (List Token)) → halt (Program ∷ []) ts ≡ o → IsDecided ts
    by None h = let p = program_found ts h in stands p.0 p.1
    by (Some r) h = let p = halt_rest ts (Program ∷ []) r h in leaves (length p.0) (placed ts p.0 r (length p.0) p.1 refl h)
