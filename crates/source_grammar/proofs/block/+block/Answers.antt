use Rattle.std.proofs.Common.{◌∷◌, sym, refl, ◌∙◌, arith}
use Rattle.std.proofs.lemmas.Grind.{common_steps}
use Rattle.source_grammar.specs.Inside.Machine.{Binds}
use Rattle.source_grammar.proofs.BlockForms.{bind_made, spawn_made, block_made, more_made, if_tail_made, case_tail_made}
use Rattle.source_grammar.proofs.BlockSteps.{binds-name, binds-tail}
use Rattle.source_grammar.proofs.block.+block.Goals as goal

pub spawn-returns-clause-ok : goal.spawn-returns-clause-ok
spawn-returns-clause-ok t c =
    spawn_made _ _ _ _ _ _ _ _ _ _ _ c.in_ok-at.ensures.ok c.in_ok-expect_sign.ensures.ok c.in_ok-priority.ensures.ok c.in_ok-expect_sign-2.ensures.ok (rw c.in_ok-boxed.ensures c.in_ok-body.ensures.ok)

pub bind-returns-clause-ok : goal.bind-returns-clause-ok
bind-returns-clause-ok t c = λ rest body h.
    bind_made _ _ _ _ _ rest _ _ _ _ _ body c.in_ok-name.ensures.ok c.in_ok-expect_sign.ensures.ok c.in_ok-at.ensures.ok c.in_ok-expect_sign-2.ensures.ok h

pub binds-returns-in_err-bind-clause-moves : goal.binds-returns-in_err-bind-clause-moves
binds-returns-in_err-bind-clause-moves t c = let e = c.is_at_name.ensures in let m = c.binds.invariant in grind (arith, common_steps, binds-name, m.moved)

pub binds-binds-preserved : goal.binds-binds-preserved
binds-binds-preserved t c = record {
  shorter = omega (arith, c.in_ok-bind.ensures.shorter);
  made = λ rest body h. more_made _ _ _ rest _ _ c.in_ok-bind.bind body c.binds.invariant.made c.in_ok-push.ensures c.in_ok-bind.ensures.ok h;
  moved = λ xs. c.binds.invariant.moved xs ∙ binds-name xs _ (sym c.is_at_name.ensures ∙ c.binds-test.true) ∙ c.in_ok-bind.ensures.moves (Binds ∷ xs);
}

pub binds-returns-clause-moves : goal.binds-returns-clause-moves
binds-returns-clause-moves t c = λ xs. c.binds.invariant.moved xs ∙ binds-tail xs _ (sym c.is_at_name.ensures ∙ c.binds-test.false)

pub block-returns-clause-ok : goal.block-returns-clause-ok
block-returns-clause-ok t c = block_made _ _ _ _ _ _ _ _ c.in_ok-at.ensures.ok c.in_ok-binds.ensures.ok c.in_ok-tail.ensures.ok c.in_ok-expect_sign.ensures.ok refl

pub if_tail-returns-clause-ok : goal.if_tail-returns-clause-ok
if_tail-returns-clause-ok t c =
    if_tail_made _ _ _ _ _ _ _ _ _ _ _ _ _ c.in_ok-at.ensures.ok c.in_ok-test.ensures.ok c.in_ok-yes.ensures.ok c.in_ok-expect_word.ensures.ok c.in_ok-no.ensures.ok refl refl

pub case_tail-returns-clause-ok : goal.case_tail-returns-clause-ok
case_tail-returns-clause-ok t c =
    case_tail_made _ _ _ _ _ _ _ _ _ _ _ _ _ _ _ _ _ _ _ c.in_ok-at.ensures.ok c.in_ok-sum.ensures.ok c.in_ok-expect_word.ensures.ok c.in_ok-first.ensures.ok c.in_ok-left.ensures.ok
    c.in_ok-expect_word-2.ensures.ok c.in_ok-second.ensures.ok c.in_ok-right.ensures.ok refl refl
