use Rattle.std.proofs.Common.{length}
use Rattle.constraint_proof.specs.Inside.Search.{constraints, IsSearch, Went}
use Rattle.constraint_proof.proofs.search.Search.round.Given as goal

abbrev pub invariant-loop-i : goal.invariant-loop-i
invariant-loop-i l = record {
  search : IsSearch l.order.pairs l.given l.start (length l.order.names) l.self.steps.items l.self.reached.items;
  went : Went l.start (length l.order.names) (constraints l.order.pairs l.given) l.i l.initial.self.reached.items l.self.reached.items l.found;
}
