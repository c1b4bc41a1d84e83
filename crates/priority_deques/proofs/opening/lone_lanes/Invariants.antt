use Rattle.std.proofs.Common.{◌≡◌, length}
use Rattle.priority_deques.specs.Books.{DequeBook}
use Rattle.priority_deques.proofs.Opened.{NewLanes}
use Rattle.priority_deques.proofs.opening.lone_lanes.Given as goal

abbrev pub invariant-loop-lane : goal.invariant-loop-lane
invariant-loop-lane g l = record { long : length l.lanes.items ≡ l.lane; new : (theirs : _ → DequeBook) → NewLanes g.O.Opens.own theirs l.fn.job 1 l.lanes.items }
