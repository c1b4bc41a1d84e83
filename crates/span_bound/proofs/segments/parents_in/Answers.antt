use Rattle.std.proofs.Common.{get_or, ap, ◌∙◌, arith}
use Rattle.cost_graph.specs.Graph.{parents_at}
use Rattle.span_bound.specs.Inside.Segments.{images}
use Rattle.span_bound.proofs.Listed.{listed_more, parents_below}
use Rattle.span_bound.proofs.segments.parents_in.Goals as goal

pub images_of-requires : goal.images_of-requires
images_of-requires c =
    let g = c.args.graph.now in
    rw (c.parents_of.ensures, c.requires.covers) (parents_below g (get_or c.args.heads.now c.loop-head.head-index 0) c.vertex_count-count.ensures.kept)

pub loop-head-preserved : goal.loop-head-preserved
loop-head-preserved c =
    let g = c.args.graph.now in
    let k = c.loop-head.head-index in
    let inv = c.loop-head.invariant in
    record {
      long = omega (arith, c.in_ok-push.ensures.len, inv.long);
      are = λ s lt. rw c.in_ok-push.ensures.items
          (listed_more (λ s. images c.args.slots.now (parents_at g (get_or c.args.heads.now s 0))) c.loop-head.all.items c.in_ok-parents.parents k inv.long inv.are
          (c.in_ok-parents.ensures ∙ ap (images c.args.slots.now) c.parents_of.ensures) s lt);
    }
