-- Ends with stealing deques may go to other threads. Rattle does not find this through the parts of an end by itself.
use denote.Param.Send.{IsSend, sendable}
use denote.Param.SendFields.{declared_send}
use Rattle.std.proofs.Crossing.{crosses, Vec-send}
use Rattle.std.proofs.alloc.Global.TheSendSync as heap
use Rattle.std.below.std_heap.proofs.GlobalAllocator.TheSendSync as allocator
use Rattle.std.proofs.option.Option.TheSendSync as option
use Rattle.std.specs.contracts.alloc.Global as Global
use Rattle.std.specs.contracts.option.Option as Option
use Rattle.std.specs.contracts.snapshot.Snapshot as Snapshot
use Rattle.std.specs.contracts.impls.GlobalAllocator.TheImpl as of_heap
use Rattle.crossbeam_deque.proofs.handles.Worker.TheSendSync as worker
use Rattle.crossbeam_deque.proofs.handles.Stealer.TheSendSync as stealer
use Rattle.crossbeam_deque.below.atomic_blocks.proofs.rows.shared.Seat.TheSendSync as seat
use Rattle.crossbeam_deque.specs.contracts.handles.Worker as Worker
use Rattle.crossbeam_deque.specs.contracts.handles.Stealer as Stealer
use Rattle.crossbeam_deque.below.atomic_blocks.specs.contracts.rows.shared.Seat as Seat
use Rattle.crossbeam_deque.specs.contracts.view.Doing as Doing
use Rattle.priml_syntax.proofs.block.Action.TheLaws.TheKnot as block
use Rattle.priml_syntax.proofs.expr.ExprForm.TheLaws.TheKnot as expr
use Rattle.priml_syntax.proofs.ty.Ty.TheLaws.TheKnot as ty
use Rattle.priml_syntax.proofs.value.Value.TheLaws.TheKnot as value
use Rattle.task_state.specs.contracts.task.Task as Task
use Rattle.type_rules.specs.contracts.job.Job as Job
use Rattle.priority_deques.specs.contracts.view.LaneView as LaneView
use Rattle.priority_deques.specs.contracts.view.LaneRule as LaneRule
use Rattle.priority_deques.specs.contracts.view.LaneRuleProtocolTaskLaneView.TheImpl as of_rule
use Rattle.priority_deques.specs.contracts.handles.OwnDeque as OwnDeque
use Rattle.priority_deques.specs.contracts.handles.TheirDeque as TheirDeque
use Rattle.priority_deques.specs.contracts.table.LaneTable as LaneTable
use Rattle.priority_deques.specs.contracts.parts.LaneDeques as LaneDeques
use Rattle.priority_deques.specs.contracts.ends.StealEnd as StealEnd
use Rattle.priority_deques.proofs.parts.LaneDeques.TheSendSync as lane

pub task_send : IsSend Task.the_row
task_send = search (crosses, block.crosses, expr.crosses, ty.crosses, value.crosses, sendable) depth 60 fits 20000

pub job_send : IsSend (Snapshot.the_row Job.the_row)
job_send = search (crosses, block.crosses, expr.crosses, ty.crosses, value.crosses, sendable) depth 60 fits 20000

pub table_send : IsSend LaneTable.the_row
table_send = search (crosses, block.crosses, expr.crosses, ty.crosses, value.crosses, sendable) depth 60 fits 20000

worker_send : IsSend (Worker.the_row Task.the_row Global.the_row LaneView.the_row LaneRule.the_row of_heap.ghosts of_rule.ghosts)
worker_send = worker.the_send Task.the_row Global.the_row LaneView.the_row LaneRule.the_row of_heap.ghosts of_rule.ghosts task_send heap.the_send heap.the_sync allocator.the_frees

stealer_send : IsSend (Stealer.the_row Task.the_row Global.the_row LaneView.the_row LaneRule.the_row of_heap.ghosts of_rule.ghosts)
stealer_send = stealer.the_send Task.the_row Global.the_row LaneView.the_row LaneRule.the_row of_heap.ghosts of_rule.ghosts task_send heap.the_send heap.the_sync allocator.the_frees

pass_send : IsSend (Seat.the_row (Option.the_row Task.the_row) (Doing.the_row Task.the_row LaneView.the_row) Global.the_row of_heap.ghosts)
pass_send = seat.the_send (Option.the_row Task.the_row) (Doing.the_row Task.the_row LaneView.the_row) Global.the_row of_heap.ghosts (option.the_send Task.the_row task_send) heap.the_send allocator.the_frees

own_send : IsSend OwnDeque.the_row
own_send = declared_send OwnDeque.the_type (worker_send, (job_send, (search sendable, (search sendable, tt))))

theirs_send : IsSend TheirDeque.the_row
theirs_send = declared_send TheirDeque.the_type (stealer_send, (pass_send, (job_send, (search sendable, tt))))

lanes_send : IsSend (LaneDeques.the_row OwnDeque.the_row TheirDeque.the_row)
lanes_send = lane.the_send OwnDeque.the_row TheirDeque.the_row own_send theirs_send

-- an end with stealing deques
pub steal_send : IsSend StealEnd.the_row
steal_send = declared_send StealEnd.the_type (table_send, (Vec-send (LaneDeques.the_row OwnDeque.the_row TheirDeque.the_row) lanes_send, tt))
