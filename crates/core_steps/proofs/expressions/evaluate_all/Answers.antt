use Rattle.std.proofs.Common.{map, sym, ap, ◌∙◌, Some, arith}
use Rattle.priml_syntax.specs.Read.{read_value, read_outcome}
use Rattle.core_steps.specs.Results.{read_result}
use Rattle.core_steps.specs.Inside.Results.{collected}
use Rattle.core_steps.proofs.Several.{turn_on, turn_off}
use Rattle.core_steps.proofs.expressions.evaluate_all.Goals as goal

pub returns-in-None : goal.returns-in-None
returns-in-None c =
    turn_off (map read_value c.args.scope.now) c.args.exprs.now c.loop-expr.expr-index c.expr-item.result (collected c.loop-expr.fault (map read_value c.loop-expr.values.items))
    (omega (arith, c.loop-expr-test.true)) c.loop-expr.invariant (sym c.expr-item.is) (sym c.in_ok-outcome.ensures ∙ ap read_result c.in-None.is)

pub loop-expr-preserved : goal.loop-expr-preserved
loop-expr-preserved c =
    ap Some c.in_ok-collect-in-Some.ensures ∙ turn_on (map read_value c.args.scope.now) c.args.exprs.now c.loop-expr.expr-index c.expr-item.result (collected c.loop-expr.fault (map read_value c.loop-expr.values.items)) (read_outcome c.in-Some.outcome)
    (omega (arith, c.loop-expr-test.true)) c.loop-expr.invariant (sym c.expr-item.is) (sym c.in_ok-outcome.ensures ∙ ap read_result c.in-Some.is)
