use Rattle.std.proofs.Common.{map, sym, ap, ◌∙◌}
use Rattle.join_board.specs.Entries.{Entry}
use Rattle.join_board.proofs.Pairs.{paired_logs}
use Rattle.join_board.proofs.shard.Shard.into_logs.Goals as goal

pub returns : goal.returns
returns c = sym (paired_logs c.self.inside.logs.items c.self.inside.waiting.items c.self.invariant) ∙ ap (map (λ (e : Entry). e.log)) c.self.view_is
