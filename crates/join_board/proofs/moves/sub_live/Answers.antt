use Rattle.std.proofs.Common.{rules}
use Rattle.join_board.proofs.Steps.{subtracts_live}
use Rattle.join_board.proofs.moves.sub_live.Goals as goal

pub fetch_sub-requires : goal.fetch_sub-requires
fetch_sub-requires c = (search rules, search rules, subtracts_live c.args.top.now.key _ _ _ (search rules))
