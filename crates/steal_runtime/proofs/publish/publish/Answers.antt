use Rattle.std.proofs.Common.{◌+◌, length, sym, subst}
use Rattle.trace_book.specs.Segments.{SegmentFields, read_segment}
use Rattle.join_board.specs.Calls.{CanCommit, HasSeen}
use Rattle.join_board.specs.Handles.{about, knows}
use Rattle.join_board.specs.Jobs.{the_job}
use Rattle.join_board.specs.Logs.{CanWait, Each}
use Rattle.join_board.specs.Threads.{ended}
use Rattle.join_board.specs.declared.view.About.{About}
use Rattle.steal_runtime.proofs.Seats.{can_commit}
use Rattle.steal_runtime.proofs.publish.publish.Goals as goal

pub commit-requires-clause-segment : goal.commit-requires-clause-segment
commit-requires-clause-segment g c = subst (CanCommit (knows c.loop.seat)) (sym c.loop.invariant.2) (can_commit (knows c.args.seat.now) (knows c.loop.seat) c.loop.invariant.1 (read_segment c.args.segment) c.requires.segment)

pub returns-in-Done-clause-done : goal.returns-in-Done-clause-done
returns-in-Done-clause-done g c = let a = c.in-Done.ensures.answer in let ts = c.in-Done.tasks.items in
    subst (λ (s : SegmentFields). HasSeen (knows c.commit.new.seat) s.path (s.from + length s.events) (ended s.events) × Each (CanWait (the_job (about c.args.board.now)) s.path) ts) c.loop.invariant.2
    (a.4, subst (λ (k : About). Each (CanWait (the_job k) c.loop.segment.path) ts) c.loop.invariant.0.1 a.3.0)
