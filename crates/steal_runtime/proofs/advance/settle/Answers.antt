use Rattle.std.proofs.Common.{sym, subst, IfSome}
use Rattle.std.specs.List.{All}
use Rattle.core_steps.specs.Steps.{Job}
use Rattle.trace_book.specs.Segments.{read_segment}
use Rattle.task_state.specs.declared.task.Task.{Task}
use Rattle.task_state.specs.Tasks.{read_task}
use Rattle.priority_deques.specs.Tasks.{IsAtRest}
use Rattle.join_board.specs.Handles.{about, knows}
use Rattle.join_board.specs.Jobs.{the_job}
use Rattle.join_board.specs.Threads.{ended}
use Rattle.steal_runtime.specs.Inside.Seats.{IsPublished}
use Rattle.steal_runtime.proofs.Seats.{has_seen}
use Rattle.steal_runtime.proofs.Tasks.{all_rest, seen_steps}
use Rattle.steal_runtime.proofs.advance.settle.Goals as goal

pub put_all-requires : goal.put_all-requires
put_all-requires g c = let s = read_segment c.in-Some.segment in let ts = c.in-Some-2.tasks.items in
    let done = subst (λ o. IfSome o (λ ts. IsPublished c.args.board.now (knows c.publish.new.seat) s ts.items)) c.in-Some-2.is c.in_ok-tasks.ensures.done in
    subst (λ (j : Job). All (λ (t : Task). IsAtRest j (read_task t)) ts) (sym c.requires.lanes) (all_rest (the_job (about c.args.board.now)) s.path ts done.1)

pub returns-clause-seen : goal.returns-clause-seen
returns-clause-seen g c = let s = read_segment c.in-Some.segment in
    let done = subst (λ o. IfSome o (λ ts. IsPublished c.args.board.now (knows c.publish.new.seat) s ts.items)) c.in-Some-2.is c.in_ok-tasks.ensures.done in
    λ _ _. (
      ended s.events,
      has_seen (knows c.publish.new.seat) (knows c.count.new.seat) c.count.ensures.1 (read_task c.args.task.now).local.path (read_task c.args.task.now).local.steps (ended s.events)
          (seen_steps (knows c.publish.new.seat) (read_task c.args.task.now) c.args.duty.worker s (ended s.events) c.in-Some.ensures.steps done.0),
    )
