use Rattle.std.proofs.Common.{rules, ◌≡◌, ◌∙◌, Some, ap, sym, subst}
use Rattle.priml_syntax.specs.Read.{read_outcome}
use Rattle.core_steps.specs.Determined.{EndsWith}
use Rattle.core_steps.specs.Moves.{read_job}
use Rattle.trace_book.specs.Segments.{read_segment}
use Rattle.task_state.specs.Tasks.{TaskFields, awaited_of, read_task}
use Rattle.worked_tasks.proofs.Ends.{segment_ends}
use Rattle.worked_tasks.proofs.tasks.feed.Goals as goal

pub returns-in-Some-outcome : goal.returns-in-Some-outcome
returns-in-Some-outcome c =
    let job = read_job c.args.job.now in
    let b = c.in-Some.awaited.now in
    let same : b ≡ c.args.segment.path = search rules in
    let gave : c.args.segment.outcome ≡ Some c.in-Some-outcome.outcome = search rules in
    let its : EndsWith job b (read_outcome c.in-Some-outcome.outcome) = subst (λ p. EndsWith job p (read_outcome c.in-Some-outcome.outcome)) (sym same) (segment_ends job (read_segment c.args.segment) c.in-Some-outcome.outcome c.requires.segment gave) in
    let awaits : awaited_of (read_task c.args.task.now) ≡ Some b = search rules in
    (c.feed.ensures.task job b c.requires.task.0 awaits its, ap (λ (t : TaskFields). t.pending) c.feed.ensures.fed ∙ c.requires.task.1)
