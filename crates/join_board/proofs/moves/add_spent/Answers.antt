use Rattle.std.proofs.Common.{rules}
use Rattle.join_board.proofs.Steps.{adds_spent}
use Rattle.join_board.proofs.moves.add_spent.Goals as goal

pub fetch_add-requires : goal.fetch_add-requires
fetch_add-requires c = (search rules, search rules, adds_spent c.args.top.now.key _ _ _ _ c.requires.counts)
