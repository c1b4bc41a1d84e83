use Rattle.cost_graph.proofs.Appended.{parent_small}
use Rattle.cost_graph.proofs.lines.push_others.Goals as goal

pub push_other-requires-clause-from : goal.push_other-requires-clause-from
push_other-requires-clause-from c = parent_small c.args.graph.now c.args.vertex c.parents_of-parents.result.now c.loop-parent.parent-index c.vertex_count-count.ensures.kept c.parents_of-parents.ensures c.loop-parent-test.true
