use Rattle.core_steps.specs.Moves.{read_job}
use Rattle.core_steps.specs.Steps.{Job}
use Rattle.trace_book.specs.Segments.{read_segment}
use Rattle.trace_book.specs.declared.segment.Segment.{Segment}
use Rattle.task_state.specs.Segments.{IsSegmentFrom, IsSegmentOf}
use Rattle.task_state.specs.Tasks.{OfJob, read_task}
use Rattle.join_board.specs.Handles.{knows}
use Rattle.join_board.specs.Tasks.{LastSteps}
use Rattle.join_board.proofs.Tasks.{has_child, last_steps, some_both}
use Rattle.join_board.proofs.owned.BoardSeat.run.Goals as goal

pub returns-clause-segment : goal.returns-clause-segment
returns-clause-segment c = let job = read_job c.args.job.now in let u = read_task c.run.new.self in let w = read_task c.segment-segment.new.self in let turn = c.in_ok-halt.ensures.turn in let n = c.requires.numbers in
    some_both c.segment-segment.result (λ (s : Segment). IsSegmentFrom u c.args.worker (read_segment s)) (λ (s : Segment). (j : Job) → OfJob j u → IsSegmentOf j (read_segment s)) (λ (s : Segment). LastSteps (knows c.args.self.now) w (read_segment s))
    (λ s from of. last_steps job (knows c.args.self.now) (read_task c.args.task.now) u w c.args.quantum c.args.worker (read_segment s) c.requires.job n.0 n.2 c.requires.task turn from (of job turn.task) c.segment-segment.ensures.rest)
    c.segment-segment.ensures.steps c.segment-segment.ensures.of_job

pub returns-clause-child : goal.returns-clause-child
returns-clause-child c = has_child (read_job c.args.job.now) c.args.quantum (read_task c.run.new.self) (read_task c.segment-segment.new.self) c.in_ok-halt.halt c.in_ok-halt.ensures.turn.task c.in_ok-halt.ensures.halt c.segment-segment.ensures.rest.key
