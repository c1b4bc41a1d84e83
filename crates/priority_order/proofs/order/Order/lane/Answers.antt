use Rattle.std.proofs.Common.{◌≡◌, ◌<◌, Some, length, get_or, sym, subst, arith}
use Rattle.std.specs.Prelude.{slice_get}
use Rattle.std.proofs.lemmas.List.{get_or_read}
use Rattle.priority_order.proofs.Placed.{as_many, placed_named}
use Rattle.priority_order.proofs.order.Order.lane.Goals as goal

pub index-requires : goal.index-requires
index-requires c =
    let s = c.self.inside in
    let i = c.self.invariant in
    omega (arith, as_many s.names.items s.closure.pairs _ c.self.view_is, i.by_lane.long, i.by_priority.long, s.lanes.ok.0, s.lane_of.ok.0)

pub returns : goal.returns
returns c =
    let s = c.self.inside in
    let i = c.self.invariant in
    let a = c.args.a in
    let k = c.index.result.now in
    let l : a < length s.lanes.items = omega (arith, as_many s.names.items s.closure.pairs _ c.self.view_is, i.by_lane.long, c.requires) in
    let is : k ≡ get_or s.lane_of.items a 0 = get_or_read s.lane_of.items a k (omega (arith, i.by_priority.long)) c.index.ensures 0 in
    let at : slice_get s.lanes.items k ≡ Some a = subst (λ x. slice_get s.lanes.items x ≡ Some a) (sym is) (i.by_priority.each a l) in
    let q = placed_named s.names.items s.closure.pairs _ c.self.view_is s.lanes.items i.by_lane a k at in
    record { is = q.is; only = q.only_lane; within = q.lane_within; above = q.above }
