use Rattle.std.proofs.Common.{rules}
use Rattle.join_board.proofs.Steps.{glues}
use Rattle.join_board.proofs.close.join.Goals as goal

pub join_seat-requires : goal.join_seat-requires
join_seat-requires c = (search rules, search rules, search rules, search rules, glues c.args.top.now.key _ _ _ _ c.requires.rests.1 c.requires.rests.2 c.requires.rests.3)
