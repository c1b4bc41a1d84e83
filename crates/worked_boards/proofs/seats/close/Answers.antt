use Rattle.std.proofs.Common.{rules, ◌≡◌, ◌∙◌, length}
use Rattle.core_steps.specs.Moves.{read_job}
use Rattle.join_board.specs.Handles.{about}
use Rattle.worked_boards.proofs.Sitting.{count_seats, each_seat}
use Rattle.worked_boards.proofs.seats.close.Goals as goal

pub close-requires-clause-seats : goal.close-requires-clause-seats
close-requires-clause-seats c = each_seat (read_job c.args._job.now) c.args.board c.args.seats.items c.requires.seats

pub close-requires-clause-all : goal.close-requires-clause-all
close-requires-clause-all c = let n : length c.args.seats.items ≡ (about c.args.board).opened = search rules in (count_seats (read_job c.args._job.now) c.args.board c.args.seats.items c.requires.seats ∙ n, c.requires.count.1)
