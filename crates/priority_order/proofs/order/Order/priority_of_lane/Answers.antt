use Rattle.std.proofs.Common.{◌<◌, length, refl, arith}
use Rattle.std.proofs.lemmas.Option.{slice_get_read}
use Rattle.priority_order.proofs.Placed.{as_many, placed_named}
use Rattle.priority_order.proofs.order.Order.priority_of_lane.Goals as goal

pub index-requires : goal.index-requires
index-requires c =
    let i = c.self.invariant in
    omega (arith, as_many c.self.inside.names.items c.self.inside.closure.pairs _ c.self.view_is, i.by_lane.long, i.by_priority.long, c.self.inside.lanes.ok.0, c.self.inside.lane_of.ok.0)

pub returns : goal.returns
returns c =
    let s = c.self.inside in
    let i = c.self.invariant in
    let l : c.args.lane < length s.lanes.items = omega (arith, as_many s.names.items s.closure.pairs _ c.self.view_is, i.by_lane.long, c.requires) in
    let at = slice_get_read s.lanes.items (length s.lanes.items) c.args.lane c.index.result.now refl l c.index.ensures in
    let q = placed_named s.names.items s.closure.pairs _ c.self.view_is s.lanes.items i.by_lane c.index.result.now c.args.lane at in
    record { is = q.is; only = q.only_priority; within = q.priority_within }
