use denote.Exit.{no}
use denote.Param.Send.{IsSend, param_send, param_sync, arg_send, arg_sync, shr_sync, sendable}
use denote.Param.SendFields.{declared_send}
use Rattle.std.proofs.alloc.Global.TheSendSync as heap
use Rattle.join_board.proofs.Crossing.{board_sync, seat_send}
use Rattle.worked_boards.specs.contracts.looks.Part as Part
use Rattle.worked_boards.proofs.Crossing.{four_sync, job_sync, maybe_send}
use Rattle.worked_boards.proofs.looks.work_all.Goals as goal

-- what a thread begins with
part_send : IsSend Part.the_row
part_send = declared_send Part.the_type (seat_send, (search sendable, tt))

pub map_vec-requires-send-J : goal.map_vec-requires-send-J
map_vec-requires-send-J g c κs within = param_send 1 _ (arg_send _ no _ part_send)

pub map_vec-requires-send-X : goal.map_vec-requires-send-X
map_vec-requires-send-X g c κs within = param_send 2 _ (arg_send _ no _ maybe_send)

pub map_vec-requires-sync-F : goal.map_vec-requires-sync-F
map_vec-requires-sync-F g c κs within = param_sync 4 _ (arg_sync _ no _ (four_sync _ _ _ _ _ (shr_sync _ _ _ c.type_bounds.sync-R) (shr_sync _ _ _ heap.the_sync) (shr_sync _ _ _ job_sync) (shr_sync _ _ _ board_sync)))
