use Rattle.prompt_checker.specs.Inside.Watch.{IsLeastOf}
use Rattle.prompt_checker.proofs.Least.{HeldBefore}
use Rattle.prompt_checker.proofs.ready.least_held.Given as goal

abbrev pub invariant-loop-p : goal.invariant-loop-p
invariant-loop-p l = IsLeastOf (HeldBefore l.order.pairs l.ready.items l.low l.p) l.best
