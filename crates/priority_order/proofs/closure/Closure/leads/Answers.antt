use Rattle.std.proofs.Common.{◌≡◌, ◌↔◌, ◌<◌, ap, subst, arith, nat_eq, IsTrue, ◌/◌, ◌^◌, bit_and, length}
use Rattle.std.proofs.lemmas.List.{get_or_read}
use Rattle.priority_order.specs.Order.{AtMost}
use Rattle.priority_order.proofs.Rows.{bit_tested}
use Rattle.priority_order.proofs.closure.Closure.leads.Goals as goal

pub returns : goal.returns
returns c =
    let n = length c.self.inside.rows.items in
    let size : n ≡ c.args.self.now.size = ap (λ e. e.size) c.self.view_is in
    let pairs : c.self.inside.pairs.items ≡ c.args.self.now.pairs = ap (λ e. e.pairs) c.self.view_is in
    let a_in : c.args.a < n = omega (arith, c.requires.a_in, size) in
    let b_in : c.args.b < n = omega (arith, c.requires.b_in, size) in
    let row = get_or_read c.self.inside.rows.items c.args.a c.index.result.now a_in c.index.ensures 0 in
    let e = c.self.invariant.exact c.args.a c.args.b a_in b_in in
    let t = bit_tested c.index.result.now c.args.b in
    subst (λ ps. IsTrue (nat_eq (bit_and (c.index.result.now / 2 ^ c.args.b) 1) 1) ↔ AtMost ps c.args.a c.args.b) pairs
    (λ h. e.0 (rw (← row) (t.0 h)), λ h. t.1 (rw row (e.1 h)))
