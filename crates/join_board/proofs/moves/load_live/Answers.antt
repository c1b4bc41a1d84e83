use Rattle.std.proofs.Common.{rules}
use Rattle.join_board.proofs.Steps.{loads_live}
use Rattle.join_board.proofs.moves.load_live.Goals as goal

pub load-requires : goal.load-requires
load-requires c = (search rules, search rules, loads_live c.args.top.now.key _ _ _)
