use Rattle.std.specs.String.{string_bytes}
use Rattle.cost_graph.specs.Text.{spawn_lines}
use Rattle.cost_graph.proofs.Appended.{grown}
use Rattle.cost_graph.proofs.lines.push_spawns.Goals as goal

pub loop-thread-preserved : goal.loop-thread-preserved
loop-thread-preserved c =
    grown (spawn_lines c.args.graph.now) c.loop-thread.thread (string_bytes c.args.text.now) (string_bytes c.loop-thread.text) (string_bytes c.push_spawn.new.text) c.loop-thread.invariant c.in_ok-push_spawn.ensures
