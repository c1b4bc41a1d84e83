use Rattle.std.proofs.Common.{◌≡◌, inl, inr, subst, arith}
use Rattle.std.specs.List.{Contains}
use Rattle.std.proofs.lemmas.Bool.{both_ways, cases_lt}
use Rattle.prompt_checker.proofs.marks.first_missing.Goals as goal

pub returns-then-not-has_run : goal.returns-then-not-has_run
returns-then-not-has_run c = (
  (omega (arith, c.loop-vertex-test.true, c.requires), λ k. both_ways c.has_run.result c.if-not-has_run.true (c.has_run.ensures.1 k)),
  λ w less o. c.loop-vertex.invariant w less o.1,
)

pub loop-vertex-preserved : goal.loop-vertex-preserved
loop-vertex-preserved c = λ k lt out.
    elim (cases_lt k c.loop-vertex.vertex) [
      | inl early ↦ c.loop-vertex.invariant k early out
      | inr late ↦ (let same : c.loop-vertex.vertex ≡ k = omega (arith, late, lt) in out (subst (Contains c.args.frontier.now.ran) same (c.has_run.ensures.0 c.if-not-has_run.false)))
    ]

pub returns : goal.returns
returns c = λ v o. c.loop-vertex.invariant v (omega (arith, o.0, c.requires, c.loop-vertex-test.false)) o.1
