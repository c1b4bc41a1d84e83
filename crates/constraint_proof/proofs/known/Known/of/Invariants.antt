use Rattle.std.proofs.Common.{◌≡◌, ◌+◌, ◌++◌, take, map}
use Rattle.constraint_proof.specs.Numbers.{numbered}
use Rattle.constraint_proof.proofs.known.Known.of.Given as goal

abbrev pub invariant-loop-pair : goal.invariant-loop-pair
invariant-loop-pair l = l.closure ≡ record { size = l.count + 64; pairs = take l.pair-index l.order.pairs }

abbrev pub invariant-loop-constraint : goal.invariant-loop-constraint
invariant-loop-constraint l = l.closure ≡ record { size = l.count + 64; pairs = l.order.pairs ++ map (numbered l.count) (take l.constraint-index l.given) }
