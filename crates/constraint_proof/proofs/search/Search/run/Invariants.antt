use Rattle.std.proofs.Common.{◌≡◌, ◌+◌, cond, false, length}
use Rattle.constraint_proof.specs.Inside.Search.{constraints, free, IsSearch, IsClosedTo}
use Rattle.constraint_proof.proofs.search.Search.run.Given as goal

abbrev pub invariant-loop-more : goal.invariant-loop-more
invariant-loop-more l = record {
  search : IsSearch l.order.pairs l.given l.start (length l.order.names) l.self.steps.items l.self.reached.items;
  closed : l.more ≡ false → IsClosedTo l.start (length l.order.names) (constraints l.order.pairs l.given) l.self.reached.items (length l.order.pairs + length l.given);
}

abbrev pub decreases-loop-more : goal.decreases-loop-more
decreases-loop-more l = free l.self.reached.items + cond l.more 1 0
