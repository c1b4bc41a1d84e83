use Rattle.std.proofs.Common.{arith}
use Rattle.task_state.specs.Tasks.{read_task}
use Rattle.priority_deques.proofs.Tables.{lane_at, place_in}
use Rattle.priority_deques.proofs.table.LaneTable.lane.Goals as goal

pub index-requires : goal.index-requires
index-requires c = let s = c.self.inside in let l = place_in s.job.value s.lanes.items c.self.invariant c.args.self.now c.self.view_is (read_task c.args.task.now) c.requires.task c.priority.result c.priority.ensures in let o = s.lanes.ok in omega arith

pub returns-clause-is : goal.returns-clause-is
returns-clause-is c = let s = c.self.inside in (lane_at s.job.value s.lanes.items c.self.invariant c.args.self.now c.self.view_is (read_task c.args.task.now) c.requires.task c.priority.result c.priority.ensures c.index.result.now c.index.ensures).0

pub returns-clause-within : goal.returns-clause-within
returns-clause-within c = let s = c.self.inside in (lane_at s.job.value s.lanes.items c.self.invariant c.args.self.now c.self.view_is (read_task c.args.task.now) c.requires.task c.priority.result c.priority.ensures c.index.result.now c.index.ensures).1
