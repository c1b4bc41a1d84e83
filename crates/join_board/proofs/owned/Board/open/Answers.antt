use Rattle.std.proofs.Common.{rules, refl}
use Rattle.join_board.proofs.Openings.{opens}
use Rattle.join_board.proofs.owned.Board.open.Goals as goal

pub new-requires : goal.new-requires
new-requires c = opens _ 1072 c.roots.result refl _ _ c.in_ok-shards.shards.items c.in_ok-shards.ensures c.roots.ensures c.requires.seats.1 (search rules) c.in_ok-slots.ensures
