use Rattle.std.proofs.Common.{arith}
use Rattle.std.proofs.lemmas.Grind.{common_steps}
use Rattle.source_grammar.specs.Inside.Machine.{parens}
use Rattle.source_grammar.proofs.BlockSteps.{steps}
use Rattle.source_grammar.proofs.BlockForms.{call_made}
use Rattle.source_grammar.proofs.action.call.Goals as goal

pub returns-clause-ok : goal.returns-clause-ok
returns-clause-ok c =
    rw c.in_ok-call.ensures (call_made _ _ _ _ _ _ _ _ _ _ _ _ c.in_ok-at.ensures.ok c.in_ok-procedure.ensures.ok c.in_ok-priorities.ensures.ok.1 c.in_ok-arguments.ensures.ok c.in_ok-expect_sign.ensures.ok)

pub returns-in_err-arguments-clause-moves : goal.returns-in_err-arguments-clause-moves
returns-in_err-arguments-clause-moves c = let m = c.in_err-arguments.ensures.moves parens in grind (arith, common_steps, steps, m)
