use Rattle.task_state.specs.Tasks.{read_task}
use Rattle.priority_deques.specs.Handles.{own_book, their_book}
use Rattle.priority_deques.proofs.Keeps.{fits_own, put_end}
use Rattle.priority_deques.proofs.ends.StealEnd.push_task.Goals as goal

pub put_into-requires-clause-fits : goal.put_into-requires-clause-fits
put_into-requires-clause-fits c = fits_own c.args.self.now.table own_book their_book c.args.self.now.lanes.items c.args.self.now.end (read_task c.args.task) c.lane-lane.result (record { rest = c.requires; of_lane = c.lane-lane.ensures.is })

pub invariant_of-self : goal.invariant_of-self
invariant_of-self c = record { end = put_end _ _ _ c.args.self.now.end _ (read_task c.args.task) c.lane-lane.result c.put_into.result c.put_into.ensures.put c.put_into.ensures.refused }
