use Rattle.std.proofs.Common.{◌≡◌, ◌∷◌, length, List, map}
use Rattle.source_grammar.specs.Grammar.{IsDecls}
use Rattle.source_grammar.specs.RawRead.{read_decl}
use Rattle.source_grammar.specs.Inside.Machine.{Symbol, halt, Program}
use Rattle.source_grammar.proofs.program.declarations.Given as goal

abbrev pub invariant-declarations : goal.invariant-declarations
invariant-declarations l = record {
  made : IsDecls l.fn.tokens l.tokens (map read_decl l.declarations.items);
  moved : (xs : List Symbol) → halt (Program ∷ xs) l.fn.tokens ≡ halt (Program ∷ xs) l.tokens;
}

abbrev pub decreases-declarations : goal.decreases-declarations
decreases-declarations l = length l.tokens
