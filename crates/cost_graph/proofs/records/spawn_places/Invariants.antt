use Rattle.cost_graph.proofs.Spawns.{ArePlaces}
use Rattle.cost_graph.proofs.records.spawn_places.Given as goal

abbrev pub invariant-loop-n : goal.invariant-loop-n
invariant-loop-n l = ArePlaces l.events.items l.n l.places.items
