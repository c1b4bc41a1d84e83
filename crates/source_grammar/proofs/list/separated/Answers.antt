use Rattle.std.proofs.Common.{◌∷◌, sym, ◌∙◌, arith}
use Rattle.source_grammar.specs.Grammar.{IsSeparated}
use Rattle.source_grammar.specs.Inside.Machine.{More}
use Rattle.source_grammar.proofs.CommaLists.{separated_behind, halt-separated, more-comma}
use Rattle.source_grammar.proofs.list.separated.Goals as goal

pub items-init : goal.items-init
items-init g c = record {
  shorter = omega (arith, c.in_ok-first.ensures.shorter);
  made = rw (c.in_ok-push.ensures, c.new-items.ensures.items) (IsSeparated.one c.in_ok-first.ensures.ok);
  moved = λ e xs. halt-separated g.T.Item.symbol e xs _ ∙ c.in_ok-first.ensures.moves (More g.T.Item.symbol e ∷ xs);
}

pub items-preserved : goal.items-preserved
items-preserved g c = record {
  shorter = omega (arith, c.in_ok-item.ensures.shorter);
  made = rw c.in_ok-push-2.ensures (separated_behind c.items.invariant.made c.in_ok-item.ensures.ok);
  moved = λ e xs. c.items.invariant.moved e xs ∙ more-comma g.T.Item.symbol e xs _ (sym c.is_at_sign.ensures ∙ c.items-test.true) ∙ c.in_ok-item.ensures.moves (More g.T.Item.symbol e ∷ xs);
}
