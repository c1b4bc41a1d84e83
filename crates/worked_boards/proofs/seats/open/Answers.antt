use Rattle.std.proofs.Common.{ℕ, ◌<◌, sym, subst}
use Rattle.core_steps.specs.Moves.{read_job}
use Rattle.worked_boards.proofs.Sitting.{opened_sits}
use Rattle.worked_boards.proofs.seats.open.Goals as goal

pub returns : goal.returns
returns c = let h = c.in_ok-board.ensures.seats in let a = c.in_ok-board.ensures.about in
    (h.0, a.1, opened_sits (read_job c.args.job.now) c.in_ok-board.board c.in_ok-board.all.items a.0 a.2 (subst (λ (n : ℕ). 0 < n) (sym a.1) c.requires.0) h.1)
