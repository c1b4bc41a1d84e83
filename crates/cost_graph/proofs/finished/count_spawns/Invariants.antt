use Rattle.std.proofs.Common.{◌≡◌, take}
use Rattle.priml_syntax.specs.Events.{spawns}
use Rattle.cost_graph.proofs.finished.count_spawns.Given as goal

abbrev pub invariant-loop-event : goal.invariant-loop-event
invariant-loop-event l = l.count ≡ spawns (take l.event-index l.events.items)
