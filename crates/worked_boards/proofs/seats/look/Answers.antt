use Rattle.core_steps.specs.Moves.{read_job}
use Rattle.worked_boards.proofs.Sitting.{sits_on}
use Rattle.worked_boards.proofs.seats.look.Goals as goal

pub returns : goal.returns
returns c = sits_on (read_job c.args._job.now) c.args.board.now c.args.seat.now c.look.new.seat c.requires c.look.ensures.seat.0 c.look.ensures.seat.1
