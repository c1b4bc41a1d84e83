use Rattle.std.proofs.Common.{rules}
use Rattle.join_board.proofs.Steps.{adds_live}
use Rattle.join_board.proofs.moves.add_live.Goals as goal

pub fetch_add-requires : goal.fetch_add-requires
fetch_add-requires c = (search rules, search rules, adds_live c.args.top.now.key _ _ _ c.requires.idle.0 c.requires.idle.1 c.requires.idle.2)
