use Rattle.std.proofs.Common.{length}
use Rattle.prompt_checker.specs.Read.{steps_of}
use Rattle.prompt_checker.proofs.Judging.{IsJudging}
use Rattle.prompt_checker.proofs.checker.judge.Given as goal

abbrev pub invariant-loop-i : goal.invariant-loop-i
invariant-loop-i l = IsJudging l.graph l.order.pairs (length l.order.names) l.cores (steps_of l.schedule) l.i l.frontier l.stood.items l.ready.items
