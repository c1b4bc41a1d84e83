use Rattle.std.proofs.Common.{sym, subst}
use Rattle.join_board.specs.Handles.{knows}
use Rattle.join_board.specs.Jobs.{the_job}
use Rattle.join_board.specs.Threads.{PrioOf}
use Rattle.join_board.specs.declared.view.About.{About}
use Rattle.steal_runtime.proofs.Seats.{seen_spawn}
use Rattle.steal_runtime.proofs.publish.enroll.Goals as goal

pub enroll-requires-clause-thread : goal.enroll-requires-clause-thread
enroll-requires-clause-thread g c = (
  seen_spawn (knows c.args.seat.now) (knows c.loop.seat) c.loop.invariant.1 c.args.path.now c.requires.thread.0,
  subst (λ (a : About). PrioOf (the_job a) c.args.path.now c.args.prio) (sym c.loop.invariant.0.1) c.requires.thread.1,
)
