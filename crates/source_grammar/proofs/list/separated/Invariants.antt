use Rattle.std.proofs.Common.{◌≡◌, ◌∷◌, ◌<◌, length, List}
use Rattle.source_grammar.specs.Grammar.{IsSeparated}
use Rattle.source_grammar.specs.Inside.Machine.{Symbol, End, halt, Separated, More}
use Rattle.source_grammar.proofs.list.separated.Given as goal

abbrev pub invariant-items : goal.invariant-items
invariant-items g l = record {
  shorter : length l.tokens < length l.fn.tokens;
  made : IsSeparated g.T.Item.stands_for l.fn.tokens l.tokens l.items.items;
  moved : (e : End) (xs : List Symbol) → halt (Separated g.T.Item.symbol e ∷ xs) l.fn.tokens ≡ halt (More g.T.Item.symbol e ∷ xs) l.tokens;
}

abbrev pub decreases-items : goal.decreases-items
decreases-items g l = length l.tokens
