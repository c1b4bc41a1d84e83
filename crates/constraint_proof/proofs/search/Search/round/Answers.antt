use Rattle.std.proofs.Common.{◌≡◌, ◌+◌, length, sym, ap, subst, arith}
use Rattle.priority_order.specs.Order.{IsWithin}
use Rattle.constraint_proof.specs.Entailed.{IsValid}
use Rattle.constraint_proof.specs.Inside.Search.{constraints, Followed, Went}
use Rattle.constraint_proof.proofs.Steps.{valid_at, follow_keeps, went_more}
use Rattle.constraint_proof.proofs.search.Search.round.Goals as goal

pub follow-requires-clause-left : goal.follow-requires-clause-left
follow-requires-clause-left c =
    subst (λ k. IsValid k c.edge_at.result.left) (sym c.count-count.ensures.value)
    (valid_at _ _ c.args.given.now (subst (IsWithin _) c.pairs.ensures.value c.pairs.ensures.within) c.requires.given c.loop-i.i _ c.edge_at.ensures.is).0

pub follow-requires-clause-right : goal.follow-requires-clause-right
follow-requires-clause-right c =
    subst (λ k. IsValid k c.edge_at.result.right) (sym c.count-count.ensures.value)
    (valid_at _ _ c.args.given.now (subst (IsWithin _) c.pairs.ensures.value c.pairs.ensures.within) c.requires.given c.loop-i.i _ c.edge_at.ensures.is).1

pub loop-i-preserved : goal.loop-i-preserved
loop-i-preserved c =
    let n = length c.args.order.now.names in
    let ps = c.args.order.now.pairs in
    let given = c.args.given.now in
    let start = c.args.start in
    let e = c.edge_at.result in
    let steps = c.loop-i.self.steps.items in
    let reached = c.loop-i.self.reached.items in
    let new_steps = c.follow.new.self.steps.items in
    let new_reached = c.follow.new.self.reached.items in
    let v = valid_at n ps given (subst (IsWithin n) c.pairs.ensures.value c.pairs.ensures.within) c.requires.given c.loop-i.i (e.left, e.right) c.edge_at.ensures.is in
    let followed : Followed start n e steps reached new_steps new_reached c.in_ok-fresh.fresh =
    subst (λ k. Followed start k e steps reached new_steps new_reached c.in_ok-fresh.fresh) c.count-count.ensures.value c.in_ok-fresh.ensures in
    record {
      search = follow_keeps ps given start n steps reached e new_steps new_reached c.loop-i.invariant.search c.edge_at.ensures.fits v.0 v.1 c.in_ok-fresh.fresh followed;
      went = went_more ps given start n c.loop-i.i e c.args.self.now.reached.items steps reached new_steps new_reached c.edge_at.ensures.is c.loop-i.found c.in_ok-fresh.fresh c.loop-i.invariant.went followed;
    }

pub returns-clause-went : goal.returns-clause-went
returns-clause-went c =
    let ps = c.args.order.now.pairs in
    let given = c.args.given.now in
    let all : c.loop-i.i ≡ length ps + length given = let l = ap length c.pairs.ensures.value in omega (arith, c.loop-i-test.false, c.loop-i.auto.i-end) in
    subst (λ k. Went c.args.start (length c.args.order.now.names) (constraints ps given) k c.args.self.now.reached.items c.loop-i.self.reached.items c.loop-i.found) all c.loop-i.invariant.went
