use Rattle.std.proofs.Common.{◌≡◌, ◌<◌, ◌∙◌, false, true, subst, sym, arith, rules, below_more}
use Rattle.std.proofs.lemmas.Bool.{false≢true, both_ways}
use Rattle.priml_syntax.specs.Paths.{child_path}
use Rattle.cost_graph.specs.Records.{parts_in, IsThere}
use Rattle.cost_graph.proofs.finished.has_children.Goals as goal

pub returns-then-not-is_there : goal.returns-then-not-is_there
returns-then-not-is_there c =
    let xs = parts_in c.args.list.now in
    let lt : c.loop-k.k < c.args.count = omega (arith, c.loop-k-test.true) in
    let is = c.deref.ensures.value ∙ c.in_ok-child.ensures in
    let missing : c.is_there.result ≡ false = search rules in
    (λ e. absurd (false≢true e), λ h. absurd (both_ways c.is_there.result missing (c.is_there.ensures.1 (subst (IsThere xs) (sym is) (h c.loop-k.k lt)))))

pub loop-k-preserved : goal.loop-k-preserved
loop-k-preserved c =
    let xs = parts_in c.args.list.now in
    let is = c.deref.ensures.value ∙ c.in_ok-child.ensures in
    let found : c.is_there.result ≡ true = search rules in
    below_more (λ k. IsThere xs (child_path c.args.path.now k)) c.loop-k.k c.loop-k.invariant (subst (IsThere xs) is (c.is_there.ensures.0 found))
