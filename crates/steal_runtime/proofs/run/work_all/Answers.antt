use denote.Exit.{no}
use denote.Param.Send.{param_send, param_sync, arg_send, arg_sync, shr_sync}
use Rattle.join_board.proofs.Crossing.{board_sync}
use Rattle.steal_runtime.proofs.Crossing.{five_sync, job_sync, left_send, number_sync, part_send}
use Rattle.steal_runtime.proofs.run.work_all.Goals as goal

pub map_vec-requires-send-J : goal.map_vec-requires-send-J
map_vec-requires-send-J g c κs within = param_send 1 _ (arg_send _ no _ (part_send _ c.type_bounds.send-L))

pub map_vec-requires-send-X : goal.map_vec-requires-send-X
map_vec-requires-send-X g c κs within = param_send 2 _ (arg_send _ no _ left_send)

pub map_vec-requires-sync-F : goal.map_vec-requires-sync-F
map_vec-requires-sync-F g c κs within = let t = c.type_bounds in
    param_sync 4 _ (arg_sync _ no _ (five_sync _ _ _ _ _ _ (shr_sync _ _ _ t.sync-R) (shr_sync _ _ _ board_sync) (shr_sync _ _ _ job_sync) (shr_sync _ _ _ t.sync-G) (shr_sync _ _ _ number_sync)))
