use Rattle.std.proofs.Common.{◌+◌, ◌≤◌, length, sym, subst, arith}
use Rattle.prompt_checker.specs.Inside.Watch.{IsLeastOf}
use Rattle.prompt_checker.proofs.Least.{HeldBefore, none_before, one_more, all_held}
use Rattle.prompt_checker.proofs.ready.least_held.Goals as goal

pub loop-p-init : goal.loop-p-init
loop-p-init c = none_before c.args.order.now.pairs c.args.ready.now.items c.args.low

pub loop-p-preserved : goal.loop-p-preserved
loop-p-preserved c =
    let pairs = c.args.order.now.pairs in
    let sets = c.args.ready.now.items in
    subst (IsLeastOf (HeldBefore pairs sets c.args.low (c.loop-p.p + 1))) (sym c.lesser-best.ensures) (one_more pairs sets c.args.low c.loop-p.p c.loop-p.best c.least_at.result c.loop-p.invariant c.least_at.ensures)

pub returns : goal.returns
returns c =
    let sets = c.args.ready.now.items in
    let le : length sets ≤ c.loop-p.p = omega (arith, c.requires.sets, c.loop-p-test.false, c.count-p-end.ensures.value) in
    all_held c.args.order.now.pairs sets c.args.low c.loop-p.p c.loop-p.best le c.loop-p.invariant
