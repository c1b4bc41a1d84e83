use Rattle.std.proofs.Common.{◌≡◌, ◌+◌, true, vec_len}
use Rattle.std.specs.List.{All}
use Rattle.join_board.specs.declared.owned.BoardSeat.{BoardSeat}
use Rattle.steal_runtime.specs.declared.parts.Left.{Left}
use Rattle.steal_runtime.specs.Inside.Seats.{Leaves, Sits, SomeOver}
use Rattle.steal_runtime.proofs.run.gather.Given as goal

abbrev pub invariant-loop-left : goal.invariant-loop-left
invariant-loop-left l = (vec_len l.seats + vec_len l.all ≡ vec_len l.fn.all) × All (λ (s : BoardSeat). Sits l.fn._board s) l.seats.items × (l.over ≡ true → SomeOver l.seats.items) × All (λ (x : Left). Leaves l.fn._board x) l.all.items

abbrev pub decreases-loop-left : goal.decreases-loop-left
decreases-loop-left l = vec_len l.all
