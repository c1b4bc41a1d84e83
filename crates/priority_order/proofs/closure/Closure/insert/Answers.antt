use Rattle.std.proofs.Common.{arith, ap, ◌≡◌, length}
use Rattle.priority_order.proofs.Rows.{closed_push}
use Rattle.priority_order.proofs.closure.Closure.insert.Goals as goal

pub invariant_of-self-2 : goal.invariant_of-self-2
invariant_of-self-2 c =
    let n = length c.self.inside.rows.items in
    let size : n ≡ c.args.self.now.size = ap (λ e. e.size) c.self.view_is in
    rw c.in_ok-push.ensures.items
    (closed_push c.self.inside.pairs.items c.self.inside.rows.items c.self.invariant c.args.a c.args.b (omega (arith, c.requires.a_in, size)) (omega (arith, c.requires.b_in, size)) c.join_rows.new.rows.items c.join_rows.ensures.long c.join_rows.ensures.each)
