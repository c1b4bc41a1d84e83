use Rattle.std.proofs.Common.{◌≡◌, map, take, Some}
use Rattle.priml_syntax.specs.Read.{read_value, read_term}
use Rattle.core_steps.specs.Expressions.{results_of}
use Rattle.core_steps.specs.Inside.Results.{collected}
use Rattle.core_steps.proofs.expressions.evaluate_all.Given as goal

abbrev pub invariant-loop-expr : goal.invariant-loop-expr
invariant-loop-expr l = Some (collected l.fault (map read_value l.values.items)) ≡ results_of (map read_value l.scope) (map read_term (take l.expr-index l.exprs))
