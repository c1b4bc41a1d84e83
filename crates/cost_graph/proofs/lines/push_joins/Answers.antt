use Rattle.std.specs.String.{string_bytes}
use Rattle.cost_graph.specs.Text.{join_lines}
use Rattle.cost_graph.proofs.Appended.{grown}
use Rattle.cost_graph.proofs.lines.push_joins.Goals as goal

pub loop-vertex-preserved : goal.loop-vertex-preserved
loop-vertex-preserved c =
    grown (join_lines c.args.graph.now) c.loop-vertex.vertex (string_bytes c.args.text.now) (string_bytes c.loop-vertex.text) (string_bytes c.push_join.new.text) c.loop-vertex.invariant c.in_ok-push_join.ensures
