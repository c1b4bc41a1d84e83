use Rattle.priority_deques.proofs.Keeps.{took_end, took_pick}
use Rattle.priority_deques.proofs.lanes.SharedEndLanes.take.Goals as goal

pub invariant_of-self : goal.invariant_of-self
invariant_of-self g c = record { end = took_end _ _ _ c.args.self.now.end c.take_from.result c.take_from.ensures }

pub returns-clause-picked : goal.returns-clause-picked
returns-clause-picked g c = took_pick _ _ _ c.args.self.now.end c.take_from.result c.take_from.ensures
