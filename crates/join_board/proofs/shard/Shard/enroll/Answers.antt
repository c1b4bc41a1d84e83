use Rattle.std.proofs.Common.{List, [], ◌∷◌, ◌++◌, ap, ap₂, ◌∙◌}
use Rattle.trace_book.specs.Log.{Log}
use Rattle.join_board.specs.Entries.{paired}
use Rattle.join_board.proofs.Pairs.{paired_snoc, Waiting}
use Rattle.join_board.proofs.shard.Shard.enroll.Goals as goal

pub returns-clause-ok : goal.returns-clause-ok
returns-clause-ok c = let ls = c.self.inside.logs.items in let ws = c.self.inside.waiting.items in let l : Log = c.new.result in let w : Waiting = c.new-2.result in
    ap₂ paired c.in_ok-push.ensures.items (c.push_reserved.ensures.items ∙ ap (λ (x : List Waiting). x ++ w ∷ []) c.in_ok-reserve.ensures.items) ∙ (paired_snoc ls ws l w c.self.invariant
    ∙ (λ i. c.self.view_is i ++ record { log = c.new.ensures i; waiting = c.new-2.ensures.items i } ∷ []))
