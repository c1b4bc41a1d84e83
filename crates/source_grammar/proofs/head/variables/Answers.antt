use Rattle.std.proofs.Common.{arith}
use Rattle.std.proofs.lemmas.Grind.{common_steps}
use Rattle.source_grammar.specs.Inside.Machine.{variables}
use Rattle.source_grammar.proofs.HeadSteps.{steps}
use Rattle.source_grammar.proofs.HeadForms.{variables_made}
use Rattle.source_grammar.proofs.head.variables.Goals as goal

pub returns-clause-ok : goal.returns-clause-ok
returns-clause-ok c = variables_made _ _ _ _ _ _ _ c.in_ok-expect_sign.ensures.ok c.in_ok-vars.ensures.ok c.in_ok-given.ensures.ok

pub returns-in_err-vars-clause-moves : goal.returns-in_err-vars-clause-moves
returns-in_err-vars-clause-moves c = let m = c.in_err-vars.ensures.moves variables in grind (arith, common_steps, steps, m)
