use Rattle.std.proofs.Common.{◌≡◌, ◌+◌, ◌-◌, get_or, ap, ◌∙◌, arith}
use Rattle.cost_graph.specs.Graph.{children_at}
use Rattle.cost_graph.proofs.Above.{all_children_below}
use Rattle.span_bound.specs.Inside.Segments.{images, last_of}
use Rattle.span_bound.proofs.Listed.{listed_more, last_below}
use Rattle.span_bound.proofs.segments.children_in.Goals as goal

pub overflow_add-last : goal.overflow_add-last
overflow_add-last c =
    let s = c.loop-s.s in
    let small = last_below c.args.graph.now c.args.heads.now c.args.lens.now c.args.slots.now s c.requires.cut c.loop-s-test.true in
    omega (arith, small, c.vertex_count-count.ensures.kept.small, c.requires.cut.filled s c.loop-s-test.true)

pub children_of-requires : goal.children_of-requires
children_of-requires c =
    let s = c.loop-s.s in
    let small = last_below c.args.graph.now c.args.heads.now c.args.lens.now c.args.slots.now s c.requires.cut c.loop-s-test.true in
    omega (arith, small, c.requires.cut.filled s c.loop-s-test.true)

pub images_of-requires : goal.images_of-requires
images_of-requires c =
    rw (c.children_of.ensures, c.requires.cut.covers) (all_children_below c.args.graph.now (get_or c.args.heads.now c.loop-s.s 0 + (get_or c.args.lens.now c.loop-s.s 0 - 1)))

pub loop-s-preserved : goal.loop-s-preserved
loop-s-preserved c =
    let g = c.args.graph.now in
    let k = c.loop-s.s in
    let inv = c.loop-s.invariant in
    let last : get_or c.args.heads.now k 0 + (get_or c.args.lens.now k 0 - 1) ≡ last_of c.args.heads.now c.args.lens.now k = omega (arith, c.requires.cut.filled k c.loop-s-test.true) in
    record {
      long = omega (arith, c.in_ok-push.ensures.len, inv.long);
      are = λ s lt. rw c.in_ok-push.ensures.items
          (listed_more (λ s. images c.args.slots.now (children_at g (last_of c.args.heads.now c.args.lens.now s))) c.loop-s.all.items c.in_ok-children.children k inv.long inv.are
          (c.in_ok-children.ensures ∙ ap (images c.args.slots.now) (c.children_of.ensures ∙ ap (children_at g) last)) s lt);
    }
