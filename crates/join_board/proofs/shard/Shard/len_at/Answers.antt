use Rattle.std.proofs.Common.{length, ap, ◌∙◌, arith}
use Rattle.trace_book.specs.Log.{Log}
use Rattle.join_board.proofs.Pairs.{in_logs, log_there}
use Rattle.join_board.proofs.shard.Shard.len_at.Goals as goal

pub index-requires : goal.index-requires
index-requires c = let h = in_logs c.self.inside.logs.items c.self.inside.waiting.items c.args.self.now c.args.i c.self.invariant c.self.view_is c.requires in omega (arith, h)

pub returns : goal.returns
returns c = λ e at. let ls = c.self.inside.logs.items in let ws = c.self.inside.waiting.items in
    ap length c.events.ensures ∙ ap (λ (l : Log). length l.events) (log_there ls ws c.args.self.now c.args.i c.index.result.now e c.self.invariant c.self.view_is c.requires c.index.ensures at)
