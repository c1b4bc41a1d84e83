-- Ends with shared queues may go to other threads. Rattle does not find this through the parts of an end by itself.
use denote.RattleType.{RattleType}
use denote.Param.Send.{IsSend, IsSync, sendable}
use denote.Param.SendFields.{declared_send, declared_sync}
use Rattle.std.proofs.Crossing.{Arc-send, Vec-send}
use Rattle.std.proofs.alloc.Global.TheSendSync as heap
use Rattle.std.below.std_heap.proofs.GlobalAllocator.TheSendSync as allocator
use Rattle.std.proofs.option.Option.TheSendSync as option
use Rattle.std.specs.contracts.alloc.Global as Global
use Rattle.std.specs.contracts.option.Option as Option
use Rattle.std.specs.contracts.impls.GlobalAllocator.TheImpl as of_heap
use Rattle.crossbeam_queue.below.atomic_blocks.proofs.web.Seat.TheSendSync as seat
use Rattle.crossbeam_queue.below.atomic_blocks.specs.contracts.web.Seat as Seat
use Rattle.crossbeam_queue.proofs.seg_queue.Chained.TheSendSync as chained
use Rattle.crossbeam_queue.specs.contracts.seg_queue.Chained as Chained
use Rattle.crossbeam_queue.specs.contracts.seg_queue.Ends as Ends
use Rattle.crossbeam_queue.specs.contracts.seg_queue.Going as Going
use Rattle.crossbeam_queue.specs.contracts.seg_queue.Laps as Laps
use Rattle.crossbeam_queue.specs.contracts.seg_queue.LapsBlockRuleOptionGoingEndsOption.TheImpl as of_laps
use Rattle.task_state.specs.contracts.task.Task as Task
use Rattle.priority_deques.specs.contracts.view.LaneView as LaneView
use Rattle.priority_deques.specs.contracts.view.LaneRule as LaneRule
use Rattle.priority_deques.specs.contracts.view.LaneRuleProtocolProtocolTaskLaneView.TheImpl as of_rule
use Rattle.priority_deques.specs.contracts.handles.Line as Line
use Rattle.priority_deques.specs.contracts.handles.SharedDeque as SharedDeque
use Rattle.priority_deques.specs.contracts.parts.LaneDeques as LaneDeques
use Rattle.priority_deques.specs.contracts.ends.SharedEnd as SharedEnd
use Rattle.priority_deques.proofs.parts.LaneDeques.TheSendSync as lane
use Rattle.priority_deques.proofs.Crossing.{job_send, table_send, task_send}

-- the slots of a queue, and what a handle knows of it
abbrev Slot : RattleType
Slot = Option.the_row Task.the_row

abbrev Known : RattleType
Known = Going.the_row Task.the_row LaneView.the_row

abbrev Queue : RattleType
Queue = Chained.the_row Slot Known (Ends.the_row Slot) (Laps.the_row LaneRule.the_row) Global.the_row (of_laps.ghosts Task.the_row LaneView.the_row LaneRule.the_row of_rule.ghosts of_laps.no_dict) of_heap.ghosts

slot_send : IsSend Slot
slot_send = option.the_send Task.the_row task_send

ends_send : IsSend (Ends.the_row Slot)
ends_send = search sendable depth 20

ends_sync : IsSync (Ends.the_row Slot)
ends_sync = search sendable depth 20

queue_send : IsSend Queue
queue_send = chained.the_send Slot Known (Ends.the_row Slot) (Laps.the_row LaneRule.the_row) Global.the_row (of_laps.ghosts Task.the_row LaneView.the_row LaneRule.the_row of_rule.ghosts of_laps.no_dict) of_heap.ghosts slot_send ends_send heap.the_send allocator.the_frees

queue_sync : IsSync Queue
queue_sync = chained.the_sync Slot Known (Ends.the_row Slot) (Laps.the_row LaneRule.the_row) Global.the_row (of_laps.ghosts Task.the_row LaneView.the_row LaneRule.the_row of_rule.ghosts of_laps.no_dict) of_heap.ghosts slot_send heap.the_send ends_sync heap.the_sync allocator.the_frees

line_send : IsSend Line.the_row
line_send = declared_send Line.the_type (queue_send, tt)

line_sync : IsSync Line.the_row
line_sync = declared_sync Line.the_type (queue_sync, tt)

pass_send : IsSend (Seat.the_row Slot Known Global.the_row of_heap.ghosts)
pass_send = seat.the_send Slot Known Global.the_row of_heap.ghosts slot_send heap.the_send allocator.the_frees

deque_send : IsSend SharedDeque.the_row
deque_send = declared_send SharedDeque.the_type (Arc-send Line.the_row line_send line_sync, (pass_send, (job_send, (search sendable, (search sendable, tt)))))

lanes_send : IsSend (LaneDeques.the_row SharedDeque.the_row SharedDeque.the_row)
lanes_send = lane.the_send SharedDeque.the_row SharedDeque.the_row deque_send deque_send

-- an end with shared queues
pub shared_send : IsSend SharedEnd.the_row
shared_send = declared_send SharedEnd.the_type (table_send, (Vec-send (LaneDeques.the_row SharedDeque.the_row SharedDeque.the_row) lanes_send, tt))
