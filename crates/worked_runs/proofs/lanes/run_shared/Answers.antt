use denote.Exit.{no}
use denote.Param.Send.{param_send, arg_send}
use Rattle.priority_deques.proofs.QueueCrossing.{shared_send}
use Rattle.worked_runs.proofs.lanes.run_shared.Goals as goal

pub run_over-requires-send-L : goal.run_over-requires-send-L
run_over-requires-send-L g c κs within = param_send 1 _ (arg_send _ no _ shared_send)
