use denote.Exit.{no}
use denote.Param.Send.{param_send, arg_send}
use mir.Syntax.{named}
use Rattle.priority_deques.proofs.QueueCrossing.{shared_send}
use Rattle.priority_deques.specs.contracts.ends.SharedEnd as SharedEnd
use Rattle.worked_runs.proofs.count.CountEnd.TheSendSync as count_end
use Rattle.worked_runs.proofs.lanes.share_counted.Goals as goal

-- the lifetime is that of the count
pub run_over-requires-send-L : goal.run_over-requires-send-L
run_over-requires-send-L g c κs within = param_send 1 _ (arg_send _ no _ (count_end.the_send (record { mir = named 4; lft = κs.1.1.1.1.0 }) SharedEnd.the_row shared_send))
