use Rattle.std.proofs.Common.{rules}
use Rattle.join_board.proofs.Steps.{asks_memory}
use Rattle.join_board.proofs.moves.ask_memory.Goals as goal

pub compare_exchange-requires : goal.compare_exchange-requires
compare_exchange-requires c = (search rules, search rules, asks_memory c.args.top.now.key _ _ _ c.requires.table.3)
