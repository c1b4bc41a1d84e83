use Rattle.std.proofs.Common.{◌<◌, subst, sym}
use Rattle.std.specs.List.{All}
use Rattle.cost_graph.specs.Graph.{vertex_total}
use Rattle.span_bound.proofs.Listed.{heads_below}
use Rattle.span_bound.proofs.segments.segments_of.Goals as goal

pub parents_in-requires-clause-within : goal.parents_in-requires-clause-within
parents_in-requires-clause-within c =
    subst (All (λ v. v < vertex_total c.args.graph.now)) (sym c.deref.ensures.value)
    (heads_below c.args.graph.now c.in_ok-heads.heads.items c.in_ok-heads.lens.items c.in_ok-heads.slots.items c.in_ok-heads.ensures)
