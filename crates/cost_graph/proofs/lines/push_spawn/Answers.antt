use Rattle.cost_graph.proofs.Appended.{parent_small}
use Rattle.cost_graph.proofs.lines.push_spawn.Goals as goal

pub push_edge-requires-clause-from : goal.push_edge-requires-clause-from
push_edge-requires-clause-from c = parent_small c.args.graph.now c.first_of-first.result c.parents_of-parents.result.now c.loop-parent.parent-index c.vertex_count-count.ensures.kept c.parents_of-parents.ensures c.loop-parent-test.true
