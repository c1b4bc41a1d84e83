use Rattle.std.proofs.Common.{[], ◌∷◌, sym, ◌∙◌}
use Rattle.source_grammar.specs.Grammar.{IsListed}
use Rattle.source_grammar.specs.Inside.Machine.{AtEnd}
use Rattle.source_grammar.proofs.CommaLists.{listed-more}
use Rattle.source_grammar.proofs.Steps.{if_ok, moves_to_along}
use Rattle.source_grammar.proofs.list.listed.Goals as goal

pub returns-then-is_at_end-clause-ok : goal.returns-then-is_at_end-clause-ok
returns-then-is_at_end-clause-ok g c = rw c.new.ensures.items IsListed.none

pub returns-clause-ok : goal.returns-clause-ok
returns-clause-ok g c = if_ok c.separated.result (λ xs h. IsListed.some h) c.separated.ensures.ok

pub returns-clause-moves : goal.returns-clause-moves
returns-clause-moves g c = λ e.
    moves_to_along _ _ _ (AtEnd e ∷ []) _ c.separated.new.tokens c.separated.result (λ xs. listed-more g.T.Item.symbol e xs _ (sym c.is_at_end.ensures ∙ c.if-is_at_end.false)) (c.separated.ensures.moves e)
