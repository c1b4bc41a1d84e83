use denote.Exit.{no}
use denote.Param.Send.{param_send, arg_send}
use Rattle.priority_deques.proofs.Crossing.{steal_send}
use Rattle.worked_lanes.proofs.workers.work_all.Goals as goal

pub for_each_mut-requires-send-T : goal.for_each_mut-requires-send-T
for_each_mut-requires-send-T g c κs within = param_send 1 _ (arg_send _ no _ steal_send)
