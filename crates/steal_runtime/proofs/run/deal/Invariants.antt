use Rattle.std.proofs.Common.{◌≡◌, ◌+◌, vec_len}
use Rattle.std.specs.List.{All}
use Rattle.join_board.specs.declared.owned.BoardSeat.{BoardSeat}
use Rattle.steal_runtime.specs.Inside.Seats.{Serves, Sits}
use Rattle.steal_runtime.proofs.run.deal.Given as goal

abbrev pub invariant-loop-end : goal.invariant-loop-end
invariant-loop-end g l = (l.worker + vec_len l.ends ≡ l.fn.first.worker + vec_len l.fn.ends) × (vec_len l.parts + vec_len l.ends ≡ vec_len l.fn.ends) × (vec_len l.seats ≡ vec_len l.ends) × All (λ (s : BoardSeat). Sits l.fn._board s) l.seats.items
    × All (λ p. Sits l.fn._board p.seat × Serves l.fn._board l.fn._job p.duty) l.parts.items × All (λ p. g.L.Lanes.job p.end ≡ l.fn._job) l.parts.items × All (λ e. g.L.Lanes.job e ≡ l.fn._job) l.ends.items

abbrev pub decreases-loop-end : goal.decreases-loop-end
decreases-loop-end g l = vec_len l.ends
