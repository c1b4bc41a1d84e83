use Rattle.std.proofs.Common.{arith}
use Rattle.std.proofs.lemmas.Grind.{common_steps}
use Rattle.source_grammar.specs.Inside.Machine.{brackets}
use Rattle.source_grammar.proofs.BlockSteps.{steps}
use Rattle.source_grammar.proofs.BlockForms.{present_made}
use Rattle.source_grammar.proofs.action.priorities.Goals as goal

pub returns-clause-ok : goal.returns-clause-ok
returns-clause-ok c =
    present_made _ _ _ _ _ _ _ _ _ c.in_ok-expect_sign.ensures.ok c.in_ok-priorities.ensures.ok c.in_ok-expect_sign-2.ensures.ok c.in_ok-expect_sign-3.ensures.ok

pub returns-in_err-priorities-clause-moves : goal.returns-in_err-priorities-clause-moves
returns-in_err-priorities-clause-moves c = let m = c.in_err-priorities.ensures.moves brackets in grind (arith, common_steps, steps, m)
