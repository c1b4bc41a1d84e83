use Rattle.std.proofs.Common.{rules}
use Rattle.join_board.proofs.Steps.{finds_stop}
use Rattle.join_board.proofs.moves.load_stop.Goals as goal

pub load-requires : goal.load-requires
load-requires c = (search rules, search rules, finds_stop c.args.top.now.key _ _ _)
