use Rattle.std.proofs.Common.{rules}
use Rattle.join_board.proofs.Steps.{cuts}
use Rattle.join_board.proofs.owned.Board.split.Goals as goal

pub split_seat-requires : goal.split_seat-requires
split_seat-requires c = let rests = c.args.seat.now.rests in (search rules, search rules, cuts c.args.self.now.table.shared.key _ _ rests.1 rests.2 rests.3 c.requires.more.0 c.requires.more.1)
