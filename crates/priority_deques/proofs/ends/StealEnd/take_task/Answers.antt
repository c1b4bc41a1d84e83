use Rattle.priority_deques.proofs.Keeps.{took_end, took_pick}
use Rattle.priority_deques.proofs.ends.StealEnd.take_task.Goals as goal

pub invariant_of-self : goal.invariant_of-self
invariant_of-self c = record { end = took_end _ _ _ c.args.self.now.end c.take_from.result c.take_from.ensures }

pub returns-clause-picked : goal.returns-clause-picked
returns-clause-picked c = took_pick _ _ _ c.args.self.now.end c.take_from.result c.take_from.ensures
