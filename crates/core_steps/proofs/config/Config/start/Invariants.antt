use Rattle.std.proofs.Common.{map}
use Rattle.core_steps.specs.Configs.{read_slot}
use Rattle.core_steps.specs.Moves.{read_job}
use Rattle.core_steps.proofs.Roots.{FirstRoots}
use Rattle.core_steps.proofs.config.Config.start.Given as goal

abbrev pub invariant-loop-k : goal.invariant-loop-k
invariant-loop-k l = FirstRoots (read_job l.job) l.k (map read_slot l.threads.items)
