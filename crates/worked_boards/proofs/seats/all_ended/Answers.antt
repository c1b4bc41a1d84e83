use Rattle.core_steps.specs.Moves.{read_job}
use Rattle.worked_boards.proofs.Sitting.{sits_on}
use Rattle.worked_boards.proofs.seats.all_ended.Goals as goal

pub returns : goal.returns
returns c = sits_on (read_job c.args._job.now) c.args.board.now c.args.seat.now c.all_ended.new.seat c.requires c.all_ended.ensures.seat.0 c.all_ended.ensures.seat.1
