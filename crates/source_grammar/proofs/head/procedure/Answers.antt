use Rattle.std.proofs.Common.{arith}
use Rattle.std.proofs.lemmas.Grind.{common_steps}
use Rattle.source_grammar.specs.Inside.Machine.{parens}
use Rattle.source_grammar.proofs.HeadSteps.{steps}
use Rattle.source_grammar.proofs.HeadForms.{procedure_made}
use Rattle.source_grammar.proofs.head.procedure.Goals as goal

pub returns-clause-ok : goal.returns-clause-ok
returns-clause-ok c =
    procedure_made _ _ _ _ _ _ _ _ _ _ _ _ _ _ _ c.in_ok-at.ensures.ok c.in_ok-name.ensures.ok c.in_ok-head.ensures.ok.1 c.in_ok-params.ensures.ok c.in_ok-expect_sign.ensures.ok c.in_ok-routine.ensures.ok

pub returns-in_err-params-clause-moves : goal.returns-in_err-params-clause-moves
returns-in_err-params-clause-moves c = let m = c.in_err-params.ensures.moves parens in grind (arith, common_steps, steps, m)
