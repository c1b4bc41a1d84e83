use denote.Exit.{no}
use denote.Param.Send.{param_send, arg_send}
use Rattle.priority_deques.proofs.Crossing.{steal_send}
use Rattle.steal_runtime.proofs.run.run_job.Goals as goal

pub run_over-requires-send-L : goal.run_over-requires-send-L
run_over-requires-send-L g c κs within = param_send 1 _ (arg_send _ no _ steal_send)
